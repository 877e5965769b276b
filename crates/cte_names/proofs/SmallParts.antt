-- Small parts of the query that are clear wherever they stand.
use Rattle.std.proofs.Common.{◌≡◌, refl, ℤ, Bool, true, false, List, [], ◌∷◌, map, Some, None}
use Rattle.away_values.specs.declared.types.Ty.{Ty}
use Rattle.away_values.specs.declared.types.Ty.TheVariants as ty
use Rattle.away_trees.specs.declared.queries.Expr.{Expr}
use Rattle.away_trees.specs.declared.queries.Select.{Select}
use Rattle.away_names.specs.Lookups.{Scope, inside, has_double}
use Rattle.qualified_names.specs.Unambiguous as c
use Rattle.qualified_names.specs.Unambiguous.{IsClear, value, items, select, query}
use Rattle.qualified_names.proofs.Gives.{Every}
use Rattle.sql_meaning.specs.Trees.{truth, number, null_of, item, one}
use Rattle.sql_meaning.specs.Trees as t

abbrev pub Clears : Scope → List Expr → Type 0
Clears s es = Every (λ e. IsClear value s e) es

pub truth_clear : (s : Scope) (b : Bool) → IsClear value s (truth b)
truth_clear s b = c.cast ty.Boolean (c.bool b)

pub number_clear : (s : Scope) (n : ℤ) → IsClear value s (number n)
number_clear s n = c.cast ty.Bigint (c.int n)

pub null_clear : (s : Scope) (t : Ty) → IsClear value s (null_of t)
null_clear s t = c.cast t c.null

pub nulls_clear : (s : Scope) (ts : List Ty) → Clears s (map null_of ts)
nulls_clear s [] = tt
nulls_clear s (t ∷ ts) = (null_clear s t, nulls_clear s ts)

pub list_clear : (s : Scope) (es : List Expr) → Clears s es → IsClear items s (map item es)
list_clear s [] h = c.no_item
list_clear s (e ∷ es) h = c.one_item None h.0 (list_clear s es h.1)

none_doubled : has_double [] ≡ false
unfolding has_double
none_doubled = refl

pub one_clear : (s : Scope) (x : Select) → IsClear select s x → IsClear query s (one x)
one_clear s x h = c.union (c.one_select h c.no_select)

-- a select without items
pub alone_clear : (s : Scope) (es : List Expr) → Clears (inside [] s) es → IsClear select s (t.select es [] None)
alone_clear s es h = c.whole none_doubled c.no_from (list_clear (inside [] s) es h) c.nothing c.no_key c.nothing

-- one row with a value, and one row where a condition holds
pub let_clear : (s : Scope) (e : Expr) → IsClear value (inside [] s) e → IsClear query s (one (t.select (e ∷ []) [] None))
let_clear s e h = one_clear s (t.select (e ∷ []) [] None) (alone_clear s (e ∷ []) (h, tt))

pub gate_clear : (s : Scope) (e : Expr) → IsClear value (inside [] s) e → IsClear query s (one (t.select (truth true ∷ []) [] (Some e)))
gate_clear s e h =
    one_clear s (t.select (truth true ∷ []) [] (Some e))
    (c.whole none_doubled c.no_from (list_clear (inside [] s) (truth true ∷ []) (truth_clear (inside [] s) true, tt)) (c.something h) c.no_key c.nothing)
