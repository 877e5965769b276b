use Rattle.std.proofs.Common.{refl}
use Rattle.away_trees.specs.declared.statements.Stmt.TheBlock as s
use Rattle.away_trees.specs.declared.queries.Expr.TheBlock as b
use Rattle.away_trees.specs.declared.queries.Expr.TheViews as view
use Rattle.plsql_meaning.proofs.examples.blocks_have_their_variables.Goals as goal

pub returns-clause-leaves : goal.returns-clause-leaves
unfolding s.hidden-the_row-Stmt-0 s.hidden-the_row-Arm-1 b.hidden-the_row-Expr-0 b.hidden-the_row-Expr-Chain-1-2-1 b.hidden-the_row-Select-5 b.hidden-the_row-Item-6 b.hidden-the_row-FromItem-7 b.hidden-the_row-Key-8 view.roll-Select view.roll-Query denote.Hole.Carrier.hidden denote.Hole.Carrier.roll
returns-clause-leaves c = refl

pub returns-clause-leaves_the_loop : goal.returns-clause-leaves_the_loop
unfolding s.hidden-the_row-Stmt-0 s.hidden-the_row-Arm-1 b.hidden-the_row-Expr-0 b.hidden-the_row-Expr-Chain-1-2-1 b.hidden-the_row-Select-5 b.hidden-the_row-Item-6 b.hidden-the_row-FromItem-7 b.hidden-the_row-Key-8 view.roll-Select view.roll-Query denote.Hole.Carrier.hidden denote.Hole.Carrier.roll
returns-clause-leaves_the_loop c = refl

pub returns-clause-slots : goal.returns-clause-slots
unfolding s.hidden-the_row-Stmt-0 s.hidden-the_row-Arm-1 b.hidden-the_row-Expr-0 b.hidden-the_row-Expr-Chain-1-2-1 b.hidden-the_row-Select-5 b.hidden-the_row-Item-6 b.hidden-the_row-FromItem-7 b.hidden-the_row-Key-8 view.roll-Select view.roll-Query denote.Hole.Carrier.hidden denote.Hole.Carrier.roll
returns-clause-slots c = refl

pub returns-clause-again : goal.returns-clause-again
unfolding s.hidden-the_row-Stmt-0 s.hidden-the_row-Arm-1 b.hidden-the_row-Expr-0 b.hidden-the_row-Expr-Chain-1-2-1 b.hidden-the_row-Select-5 b.hidden-the_row-Item-6 b.hidden-the_row-FromItem-7 b.hidden-the_row-Key-8 view.roll-Select view.roll-Query denote.Hole.Carrier.hidden denote.Hole.Carrier.roll
returns-clause-again c = refl

pub returns-clause-not_null : goal.returns-clause-not_null
unfolding s.hidden-the_row-Stmt-0 s.hidden-the_row-Arm-1 b.hidden-the_row-Expr-0 b.hidden-the_row-Expr-Chain-1-2-1 b.hidden-the_row-Select-5 b.hidden-the_row-Item-6 b.hidden-the_row-FromItem-7 b.hidden-the_row-Key-8 view.roll-Select view.roll-Query denote.Hole.Carrier.hidden denote.Hole.Carrier.roll
returns-clause-not_null c = refl

pub returns-clause-nullable : goal.returns-clause-nullable
unfolding s.hidden-the_row-Stmt-0 s.hidden-the_row-Arm-1 b.hidden-the_row-Expr-0 b.hidden-the_row-Expr-Chain-1-2-1 b.hidden-the_row-Select-5 b.hidden-the_row-Item-6 b.hidden-the_row-FromItem-7 b.hidden-the_row-Key-8 view.roll-Select view.roll-Query denote.Hole.Carrier.hidden denote.Hole.Carrier.roll
returns-clause-nullable c = refl

pub returns-clause-null_default : goal.returns-clause-null_default
unfolding s.hidden-the_row-Stmt-0 s.hidden-the_row-Arm-1 b.hidden-the_row-Expr-0 b.hidden-the_row-Expr-Chain-1-2-1 b.hidden-the_row-Select-5 b.hidden-the_row-Item-6 b.hidden-the_row-FromItem-7 b.hidden-the_row-Key-8 view.roll-Select view.roll-Query denote.Hole.Carrier.hidden denote.Hole.Carrier.roll
returns-clause-null_default c = refl

pub returns-clause-value_first : goal.returns-clause-value_first
unfolding s.hidden-the_row-Stmt-0 s.hidden-the_row-Arm-1 b.hidden-the_row-Expr-0 b.hidden-the_row-Expr-Chain-1-2-1 b.hidden-the_row-Select-5 b.hidden-the_row-Item-6 b.hidden-the_row-FromItem-7 b.hidden-the_row-Key-8 view.roll-Select view.roll-Query denote.Hole.Carrier.hidden denote.Hole.Carrier.roll
returns-clause-value_first c = refl

pub returns-clause-default : goal.returns-clause-default
unfolding s.hidden-the_row-Stmt-0 s.hidden-the_row-Arm-1 b.hidden-the_row-Expr-0 b.hidden-the_row-Expr-Chain-1-2-1 b.hidden-the_row-Select-5 b.hidden-the_row-Item-6 b.hidden-the_row-FromItem-7 b.hidden-the_row-Key-8 view.roll-Select view.roll-Query denote.Hole.Carrier.hidden denote.Hole.Carrier.roll
returns-clause-default c = refl
