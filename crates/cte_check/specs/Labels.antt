-- The label of each block, and what a label's parameters stand for.
use Rattle.std.specs.Prelude.{◌≡◌, ℕ, zero, suc, List, [], ◌∷◌, Option, Some, None, slice_get}
use Rattle.call_forms.specs.Forms.{place_from}
use Rattle.cte_reads.specs.declared.scope.Ref.{Ref}
use Rattle.cte_reads.specs.References.{no_ref}

-- at each block's number its label, counted from 0
abbrev pub TableOf : List ℕ → List (Option ℕ) → Type 0
TableOf labels table = (b : ℕ) (label : Option ℕ) → slice_get table b ≡ Some label → label ≡ place_from 0 labels b

-- the one, or the other where it is missing
abbrev pub first_label : Option ℕ → Option ℕ → Option ℕ
first_label None later = later
first_label (Some k) later = Some k

-- the table with a label at a block that has none yet
abbrev pub marked : List (Option ℕ) → ℕ → ℕ → List (Option ℕ)
marked [] block label = []
marked (x ∷ xs) zero label = first_label x (Some label) ∷ xs
marked (x ∷ xs) (suc block) label = x ∷ marked xs block label

-- a column of the rows, behind `go` and `fn`; one that no row has where there is no place
abbrev pub row_ref : Option ℕ → Ref
row_ref None = no_ref
row_ref (Some place) = record { from = 0; item = 0; column = suc (suc place) }

abbrev pub label_refs : List ℕ → List ℕ → List Ref
label_refs [] places = []
label_refs (p ∷ params) [] = no_ref ∷ label_refs params []
label_refs (p ∷ params) (place ∷ places) = row_ref (Some place) ∷ label_refs params places
