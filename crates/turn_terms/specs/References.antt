-- What names stand for: expressions whose slots are the columns of the row.
use Rattle.std.specs.Prelude.{
  ℕ,
  suc,
  if◌then◌else◌,
  cond,
  nat_eq,
  nat_lt,
  List,
  [],
  ◌∷◌,
  length,
}
use Rattle.away_values.specs.declared.types.Ty.{Ty}
use Rattle.away_trees.specs.declared.queries.Expr.{Expr}
use Rattle.away_trees.specs.declared.queries.Expr.TheVariants as expr
use Rattle.away_trees.specs.Algebra.{expr_of}
use Rattle.sql_meaning.specs.Placed.{replacing}
use Rattle.sql_meaning.specs.Trees.{col}
use Rattle.call_forms.specs.Scopes.{Scope}
use Rattle.turn_template.specs.TurnTemplate.{Ref}
use Rattle.turn_terms.specs.declared.references.Reference.{Reference}

abbrev pub as_it_is : Ty → Expr → Expr
as_it_is t e = e

-- Each slot is a column of the row, which so many selects stand before. Literals stay as they are.
unfoldable pub on_row : Expr → Ref
on_row e d = expr_of (replacing (λ d i. col d 0 i) as_it_is) e d

-- the value of a name by the last pair that has it, or x
abbrev pub value_or : Expr → List Reference → ℕ → Expr
value_or x [] n = x
value_or x (r ∷ rs) n = value_or (if nat_eq r.name n then r.value else x) rs n

-- what is not there is NULL
unfoldable pub value_in : List Reference → ℕ → Expr
value_in rs n = value_or expr.Null rs n

unfoldable pub scope_of : List Reference → Scope Ref
scope_of rs n = on_row (value_in rs n)

-- the value beside the first key that is n
unfoldable pub at_keys : List ℕ → List Expr → ℕ → Expr
at_keys [] xs n = expr.Null
at_keys (k ∷ ks) [] n = expr.Null
at_keys (k ∷ ks) (x ∷ xs) n = if nat_eq k n then x else at_keys ks xs n

-- a column at a place, behind `go` and `fn`
unfoldable pub at_place : List Ty → ℕ → Expr
at_place columns place =
    cond (nat_lt place (length columns)) (expr.Slot (suc (suc place))) expr.Null
