-- The worked turns compute.
use Rattle.std.proofs.Common.{refl}
use Rattle.away_values.specs.Operators.{literal_type}
use Rattle.away_trees.specs.declared.statements.Stmt.TheBlock as b
use Rattle.away_trees.specs.declared.queries.Expr.TheBlock as e
use Rattle.away_trees.specs.declared.queries.Expr.TheViews as view
use Rattle.block_forms.specs.Expressions.{sources}
use Rattle.turn_equivalence.specs.Worked.{WorkedTurns}

pub turns_are : WorkedTurns
unfolding sources b.hidden-the_row-Stmt-0 b.hidden-the_row-Arm-1 e.hidden-the_row-Expr-0 e.hidden-the_row-Expr-Chain-1-2-1 e.hidden-the_row-Expr-2 e.hidden-the_row-Expr-Cases-0-2-3 e.hidden-the_row-Query-4 e.hidden-the_row-Select-5 e.hidden-the_row-Item-6 e.hidden-the_row-FromItem-7 e.hidden-the_row-Key-8 view.roll-Select view.roll-Recursive view.roll-Query denote.Hole.Carrier.hidden denote.Hole.Carrier.roll literal_type
turns_are = record {
  head_ends = ((tt, tt), tt);
  entry_ends = tt;
  no_step = refl;
  by_one = refl;
  by_one_more = refl;
  by_two = refl;
  by_two_more = refl;
  by_three = refl;
}
