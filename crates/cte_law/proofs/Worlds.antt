-- What a query is made from and read over: tables, expressions by number, the type of each name and of the result, and the forms of a frame.
use Rattle.std.proofs.Common.{◌≡◌, ℕ, zero, suc, List, [], ◌∷◌, map, length, get_or, refl}
use Rattle.std.specs.Prelude.{slice_get}
use Rattle.away_trees.specs.declared.queries.Expr.{Expr}
use Rattle.away_trees.specs.declared.queries.Expr.TheVariants as expr
use Rattle.away_values.specs.declared.types.Ty.{Ty}
use Rattle.away_values.specs.declared.values.Value.{Value}
use Rattle.away_values.specs.Results.{Or}
use Rattle.sql_meaning.specs.Context.{Rows}
use Rattle.sql_meaning.specs.Meaning.{value}
use Rattle.sql_meaning.specs.OneReturn.{body}
use Rattle.sql_meaning.specs.Reads.{slots_of}
use Rattle.block_forms.specs.declared.forms.Goto.{Goto}
use Rattle.block_forms.specs.declared.forms.Term.{Term}
use Rattle.block_forms.specs.Expressions.{Sources, holding, entry_value, applied}
use Rattle.block_forms.specs.Runs.{Frame}
use Rattle.call_forms.specs.declared.forms.Anf.{Anf}
use Rattle.call_forms.specs.declared.forms.Tail.{Tail}
use Rattle.call_forms.specs.Scopes.{Scope}
use Rattle.function_facts.specs.OverTables.{IsOverTables}

pub record World : Type 0 where
  pub tables : List Rows
  pub table : Sources
  pub types : ℕ → Ty
  pub result : Ty
  pub slots : ℕ
  pub params : ℕ
  pub goto : Goto
  pub anf : Anf
  pub tail : Tail

abbrev pub frame_in : World → Frame
frame_in w = record { apply = applied w.tables w.table; slots = w.slots; params = w.params; goto = w.goto }

-- the expression of a term
abbrev pub expr_in : World → Term → Expr
expr_in w t = get_or w.table t.expr expr.Null

-- its value where the names have these values
abbrev pub value_in : World → Term → Scope Value → Or Value
value_in w t s = applied w.tables w.table t.expr (map (λ n. s n) t.names)

-- what its slots hold
abbrev pub held_in : World → Term → Scope Value → List Value
held_in w t s = holding (slots_of (expr_in w t)) (map (λ n. s n) t.names)

-- each expression is one over the tables
abbrev pub OverTables : World → Type 0
OverTables w = (k : ℕ) → IsOverTables (length w.tables) (get_or w.table k expr.Null)

entry_is : (tables : List Rows) (table : Sources) (k : ℕ) (vs : List Value)
    → entry_value tables (slice_get table k) vs ≡ value (get_or table k expr.Null) (body tables (holding (slots_of (get_or table k expr.Null)) vs))
entry_is tables [] k vs = refl
entry_is tables (e ∷ es) zero vs = refl
entry_is tables (e ∷ es) (suc k) vs = entry_is tables es k vs

pub value_is : (w : World) (t : Term) (s : Scope Value) → value_in w t s ≡ value (expr_in w t) (body w.tables (held_in w t s))
value_is w t s = entry_is w.tables w.table t.expr (map (λ n. s n) t.names)
