-- When a query is equivalent to a function.
use Rattle.std.specs.Prelude.{◌≡◌, ℕ, Bool, false, List, [], ◌∷◌, map, Option}
use Rattle.away_values.specs.declared.types.Ty.{Ty}
use Rattle.away_trees.specs.declared.queries.Expr.{Expr}
use Rattle.away_trees.specs.declared.queries.Query.{Query}
use Rattle.away_trees.specs.declared.schemas.Schema.{Schema}
use Rattle.away_trees.specs.declared.statements.Function.{Function}
use Rattle.away_trees.specs.declared.statements.Stmt.TheVariants as stmt
use Rattle.away_trees.specs.Count.{weight}
use Rattle.away_trees.specs.Fits.{FitsSchema}
use Rattle.sql_meaning.specs.Equivalent.{FunctionAnswer, IsEquivalent}
use Rattle.sql_meaning.specs.Typed.{AreTyped}
use Rattle.plsql_meaning.specs.Functions.{function_answer, over}

-- what the function answers over tables and arguments within so many turns, where each slot has its
-- type, and is NOT NULL or not
abbrev pub answers : Function → List (Ty × Bool) → FunctionAnswer
answers f slots tables args turns = function_answer (over tables slots) f args turns

abbrev pub types_of : Function → List Ty
types_of f = map (λ p. p.1) f.params

-- A query is equivalent to a function under a schema: over all tables that fit the schema and all
-- arguments of the parameters' types, for all numbers of turns and iterations. It names no form, no
-- block and no column.
abbrev pub Equivalent : Schema → Function → List (Ty × Bool) → Query → Type 0
Equivalent schema f slots q =
    IsEquivalent (FitsSchema schema) (AreTyped (types_of f)) (weight f) (answers f slots) q

-- the function isn't STRICT, and its body is one RETURN in a block
pub record IsOneReturn (f : Function) (e : Expr) : Type 0 where
  pub label : Option (List ℕ)
  pub closing : Option (List ℕ)
  pub not_strict : f.strict ≡ false
  pub body : f.body ≡ stmt.Block label [] (stmt.Return e ∷ []) closing
