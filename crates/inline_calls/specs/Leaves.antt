-- What stands for slots and for columns where a tree is moved.
use Rattle.std.specs.Prelude.{ℕ, false, pos, [], ◌∷◌}
use Rattle.away_trees.specs.declared.queries.Col.{Col}
use Rattle.away_trees.specs.declared.queries.Expr.{Expr}
use Rattle.away_trees.specs.declared.queries.Expr.TheVariants as expr
use Rattle.away_values.specs.declared.operators.ChainOp.TheVariants as chain
use Rattle.away_values.specs.declared.operators.CmpOp.TheVariants as cmp
use Rattle.away_values.specs.declared.operators.IsTest.TheVariants as test
use Rattle.sql_meaning.specs.Trees.{col, null_of}
use Rattle.inline_law.specs.Moved.{outward, same_column, same_slot}
use Rattle.inline_law.specs.Written.{call_leaf}
use Rattle.inline_calls.specs.declared.leaves.CallPlaces.{CallPlaces}
use Rattle.inline_calls.specs.declared.leaves.Moves.{Moves}
use Rattle.inline_calls.specs.declared.leaves.Moves.TheVariants.{Calls, Nulls, Outward}

abbrev pub is_null : Expr → Expr
is_null e = expr.Is e test.Null false

abbrev pub are_null : ℕ → Expr → Expr
are_null place e = expr.Chain (is_null (col 0 0 place)) ((chain.And, is_null e) ∷ [])

abbrev pub is_number : ℕ → Expr
is_number n = expr.Compare cmp.Eq (col 0 0 2) (expr.Int (pos n))

-- the subquery of call i at depth d
abbrev pub call_at : CallPlaces → ℕ → ℕ → Expr
call_at c = call_leaf c.table.now c.columns c.calls.now

unfoldable pub leaf_of : Moves → ℕ → ℕ → Expr
leaf_of (Calls c) d i = call_at c.now d i
leaf_of (Nulls t) d i = null_of t
leaf_of Outward d i = same_slot d i

unfoldable pub place_of : Moves → ℕ → Col → Expr
place_of (Calls c) d col = same_column d col
place_of (Nulls t) d col = same_column d col
place_of Outward d col = outward 1 d col
