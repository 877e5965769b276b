-- The worked examples, computed.
use Rattle.std.proofs.Common.{refl}
use Rattle.away_trees.specs.declared.statements.Stmt.TheBlock as b
use Rattle.away_trees.specs.declared.queries.Expr.TheBlock as e
use Rattle.away_trees.specs.declared.queries.Expr.TheViews as view
use Rattle.away_values.specs.Operators.{literal_type}
use Rattle.block_forms.specs.Expressions.{sources}
use Rattle.inline_law.specs.Worked.{WorkedQueries}

pub queries_are : WorkedQueries
unfolding sources b.hidden-the_row-Stmt-0 b.hidden-the_row-Arm-1 e.hidden-the_row-Expr-0 e.hidden-the_row-Expr-Chain-1-2-1 e.hidden-the_row-Expr-2 e.hidden-the_row-Expr-Cases-0-2-3 e.hidden-the_row-Query-4 e.hidden-the_row-Select-5 e.hidden-the_row-Item-6 e.hidden-the_row-FromItem-7 e.hidden-the_row-Key-8 view.roll-Select view.roll-Recursive view.roll-Query denote.Hole.Carrier.hidden denote.Hole.Carrier.roll literal_type view.out-Select denote.Hole.Carrier.out denote.Hole.Carrier.shown e.shown-the_row-Key-8
queries_are = record {
  filled = refl;
  too_few_turns = refl;
  ends = refl;
  goes_on = refl;
  both_filled = refl;
  both_end = refl;
  rest_filled = refl;
  rest_faults = refl;
  argument_faults = refl;
  argument_unfilled = refl;
  further_in = refl;
}
