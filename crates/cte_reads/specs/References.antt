-- The columns that a walk's names stand for.
use Rattle.std.specs.Prelude.{ℕ, suc, ◌-◌, List, [], ◌∷◌, Option, Some, None, if◌then◌else◌, nat_eq}
use Rattle.away_trees.specs.declared.queries.Col.{Col}
use Rattle.call_forms.specs.Scopes as call
use Rattle.cte_reads.specs.declared.scope.Ref.{Ref}
use Rattle.cte_reads.specs.declared.scope.Scope as code

-- the value of a key, where the first of equal keys counts
abbrev pub lookup : {A : Type 0} → List ℕ → List A → ℕ → Option A
lookup [] values k = None
lookup (x ∷ keys) [] k = None
lookup (x ∷ keys) (v ∷ values) k = if nat_eq x k then Some v else lookup keys values k

-- the reference as a column, seen from a select that `out` selects of the branch enclose
abbrev pub col_at : ℕ → Ref → Col
col_at out r = record { level = suc out - r.from; item = r.item; column = r.column }

-- a column that no row has
abbrev pub no_ref : Ref
no_ref = record { from = 0; item = 1; column = 0 }

abbrev pub ref_or : Option Ref → Ref
ref_or None = no_ref
ref_or (Some r) = r

abbrev pub Set : Type 0
Set = Option (ℕ × Ref)

-- what a name stands for: what was set counts first
abbrev pub found_behind : Set → Option Ref → ℕ → Option Ref
found_behind None found n = found
found_behind (Some s) found n = if nat_eq s.0 n then Some s.1 else found

abbrev pub found_in : code.Scope → ℕ → Option Ref
found_in s n = found_behind s.set (lookup s.names.now s.refs n) n

-- what each name stands for; None where one stands for nothing
abbrev pub one_more : Option Ref → Option (List Ref) → Option (List Ref)
one_more None found = None
one_more (Some r) None = None
one_more (Some r) (Some rs) = Some (r ∷ rs)

abbrev pub founds : code.Scope → List ℕ → Option (List Ref)
founds s [] = Some []
founds s (n ∷ ns) = one_more (found_in s n) (founds s ns)

-- each name's column, and one that no row has where a name stands for nothing
abbrev pub refs_of : ℕ → code.Scope → call.Scope Col
refs_of out s n = col_at out (ref_or (found_in s n))

abbrev pub with_set : Set → List ℕ → List ℕ
with_set None names = names
with_set (Some s) names = s.0 ∷ names

-- the names that stand for something
abbrev pub names_of : code.Scope → List ℕ
names_of s = with_set s.set s.names.now
