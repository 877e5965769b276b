-- The forms with calls as plain lists and enums.
use Rattle.std.specs.Prelude.{ℕ, suc, List, [], ◌∷◌, Option, Some, None, if◌then◌else◌, nat_eq}
pub use Rattle.call_forms.specs.declared.forms.Call.{Call}
pub use Rattle.call_forms.specs.declared.forms.CallEnd.{CallEnd}
pub use Rattle.call_forms.specs.declared.forms.CallEnd.TheVariants.{Go, Pick, Return, Fail}
pub use Rattle.call_forms.specs.declared.forms.AnfBlock.{AnfBlock}
pub use Rattle.call_forms.specs.declared.forms.Anf.{Anf}
pub use Rattle.call_forms.specs.declared.forms.Tail.{Tail}

-- what is no block has no parameters
abbrev pub params_of : Option AnfBlock → List ℕ
params_of None = []
params_of (Some x) = x.params

-- the place of a number in a list, counted from i; the first one counts
abbrev pub place_from : ℕ → List ℕ → ℕ → Option ℕ
place_from i [] b = None
place_from i (x ∷ xs) b = if nat_eq x b then Some i else place_from (suc i) xs b

-- the label of a block, counted from 0; None where the block is no label
abbrev pub label_of : Tail → ℕ → Option ℕ
label_of tail b = place_from 0 tail.labels b
