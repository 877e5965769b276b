use Rattle.std.proofs.Common.{refl}
use Rattle.away_trees.specs.declared.statements.Stmt.TheBlock as s
use Rattle.away_trees.specs.declared.queries.Expr.TheBlock as b
use Rattle.away_trees.specs.declared.queries.Expr.TheViews as view
use Rattle.plsql_meaning.proofs.examples.a_function_ends_as_its_body_does.Goals as goal

pub returns-clause-ending : goal.returns-clause-ending
unfolding s.hidden-the_row-Stmt-0 s.hidden-the_row-Arm-1 b.hidden-the_row-Expr-0 b.hidden-the_row-Expr-Chain-1-2-1 b.hidden-the_row-Select-5 b.hidden-the_row-Item-6 b.hidden-the_row-FromItem-7 b.hidden-the_row-Key-8 view.roll-Select view.roll-Query denote.Hole.Carrier.hidden denote.Hole.Carrier.roll
returns-clause-ending c = refl

pub returns-clause-message : goal.returns-clause-message
unfolding s.hidden-the_row-Stmt-0 s.hidden-the_row-Arm-1 b.hidden-the_row-Expr-0 b.hidden-the_row-Expr-Chain-1-2-1 b.hidden-the_row-Select-5 b.hidden-the_row-Item-6 b.hidden-the_row-FromItem-7 b.hidden-the_row-Key-8 view.roll-Select view.roll-Query denote.Hole.Carrier.hidden denote.Hole.Carrier.roll
returns-clause-message c = refl

pub returns-clause-raise : goal.returns-clause-raise
unfolding s.hidden-the_row-Stmt-0 s.hidden-the_row-Arm-1 b.hidden-the_row-Expr-0 b.hidden-the_row-Expr-Chain-1-2-1 b.hidden-the_row-Select-5 b.hidden-the_row-Item-6 b.hidden-the_row-FromItem-7 b.hidden-the_row-Key-8 view.roll-Select view.roll-Query denote.Hole.Carrier.hidden denote.Hole.Carrier.roll
returns-clause-raise c = refl

pub returns-clause-strict : goal.returns-clause-strict
unfolding s.hidden-the_row-Stmt-0 s.hidden-the_row-Arm-1 b.hidden-the_row-Expr-0 b.hidden-the_row-Expr-Chain-1-2-1 b.hidden-the_row-Select-5 b.hidden-the_row-Item-6 b.hidden-the_row-FromItem-7 b.hidden-the_row-Key-8 view.roll-Select view.roll-Query denote.Hole.Carrier.hidden denote.Hole.Carrier.roll
returns-clause-strict c = refl

pub returns-clause-runs : goal.returns-clause-runs
unfolding s.hidden-the_row-Stmt-0 s.hidden-the_row-Arm-1 b.hidden-the_row-Expr-0 b.hidden-the_row-Expr-Chain-1-2-1 b.hidden-the_row-Select-5 b.hidden-the_row-Item-6 b.hidden-the_row-FromItem-7 b.hidden-the_row-Key-8 view.roll-Select view.roll-Query denote.Hole.Carrier.hidden denote.Hole.Carrier.roll
returns-clause-runs c = refl
