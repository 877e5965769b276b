-- An expression of a function has the same value wherever it is placed in a query, and only what it
-- reads matters to it.
use Rattle.std.specs.Prelude.{◌≡◌, ℕ, Bool, true, nat_lt, [], slice_index_or, All}
use Rattle.away_values.specs.declared.types.Ty.{Ty}
use Rattle.away_trees.specs.declared.queries.Col.{Col}
use Rattle.away_trees.specs.declared.queries.Expr.{Expr}
use Rattle.sql_meaning.specs.Context.{Context, at, argument, column}
use Rattle.sql_meaning.specs.Meaning.{value, has_aggregate}
use Rattle.sql_meaning.specs.Placed.{placed, placed_at}
use Rattle.sql_meaning.specs.Reads.{fits, slots_of}

-- an expression with so many parameters and tables sees the same in both contexts, its slots apart,
-- and stands in no list with aggregates
pub record SeesAlike (params tables : ℕ) (cx qx : Context) : Type 0 where
  pub params_are : (i : ℕ) → nat_lt i params ≡ true → argument qx.args i ≡ argument cx.args i
  pub tables_are : (k : ℕ) → nat_lt k tables ≡ true → slice_index_or qx.tables k [] ≡ slice_index_or cx.tables k []
  pub no_group : cx.group ≡ []
  pub no_rows : qx.group ≡ []

-- the same value or class, and aggregates in the same places
pub record Keeps (cx qx : Context) (e e' : Expr) : Type 0 where
  pub same : value e' qx ≡ value e cx
  pub single : has_aggregate e' ≡ has_aggregate e

-- Slots that are replaced by columns of enclosing rows which hold their values keep the value of
-- the expression, at every depth of its subqueries. The literals get the casts to their types, and
-- where the expression is the literal NULL it may have the cast to any type.
abbrev pub Substitution : Type 0
Substitution =
    (ref : ℕ → Col) (slots : ℕ → Bool) (params tables : ℕ) (cx qx : Context) → SeesAlike params tables cx qx
    → ((i : ℕ) → slots i ≡ true → column qx.frames (ref i) ≡ at cx.env i) → (e : Expr) → fits slots params tables e
    ≡ true → Keeps cx qx e (placed ref e) × ((t : Ty) → Keeps cx qx e (placed_at t ref e))

-- Only the slots that an expression reads matter to its value.
abbrev pub OnlySlotsMatter : Type 0
OnlySlotsMatter =
    (slots : ℕ → Bool) (params tables : ℕ) (cx qx : Context) → SeesAlike params tables cx qx → (e : Expr)
    → fits slots params tables e ≡ true → All (λ i. at qx.env i ≡ at cx.env i) (slots_of e) → value e qx ≡ value e cx
