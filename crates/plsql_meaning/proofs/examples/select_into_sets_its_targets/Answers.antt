use Rattle.std.proofs.Common.{refl}
use Rattle.away_trees.specs.declared.statements.Stmt.TheBlock as s
use Rattle.away_trees.specs.declared.queries.Expr.TheBlock as b
use Rattle.away_trees.specs.declared.queries.Expr.TheViews as view
use Rattle.plsql_meaning.proofs.examples.select_into_sets_its_targets.Goals as goal

pub returns-clause-selected : goal.returns-clause-selected
unfolding s.hidden-the_row-Stmt-0 s.hidden-the_row-Arm-1 b.hidden-the_row-Expr-0 b.hidden-the_row-Expr-Chain-1-2-1 b.hidden-the_row-Select-5 b.hidden-the_row-Item-6 b.hidden-the_row-FromItem-7 b.hidden-the_row-Key-8 view.roll-Select view.roll-Query denote.Hole.Carrier.hidden denote.Hole.Carrier.roll view.out-Select denote.Hole.Carrier.out denote.Hole.Carrier.shown b.shown-the_row-Item-6 b.shown-the_row-Key-8
returns-clause-selected c = refl

pub returns-clause-no_row : goal.returns-clause-no_row
unfolding s.hidden-the_row-Stmt-0 s.hidden-the_row-Arm-1 b.hidden-the_row-Expr-0 b.hidden-the_row-Expr-Chain-1-2-1 b.hidden-the_row-Select-5 b.hidden-the_row-Item-6 b.hidden-the_row-FromItem-7 b.hidden-the_row-Key-8 view.roll-Select view.roll-Query denote.Hole.Carrier.hidden denote.Hole.Carrier.roll view.out-Select denote.Hole.Carrier.out denote.Hole.Carrier.shown b.shown-the_row-Item-6 b.shown-the_row-Key-8
returns-clause-no_row c = refl

pub returns-clause-no_row_strict : goal.returns-clause-no_row_strict
unfolding s.hidden-the_row-Stmt-0 s.hidden-the_row-Arm-1 b.hidden-the_row-Expr-0 b.hidden-the_row-Expr-Chain-1-2-1 b.hidden-the_row-Select-5 b.hidden-the_row-Item-6 b.hidden-the_row-FromItem-7 b.hidden-the_row-Key-8 view.roll-Select view.roll-Query denote.Hole.Carrier.hidden denote.Hole.Carrier.roll view.out-Select denote.Hole.Carrier.out denote.Hole.Carrier.shown b.shown-the_row-Item-6 b.shown-the_row-Key-8
returns-clause-no_row_strict c = refl

pub returns-clause-two_rows : goal.returns-clause-two_rows
unfolding s.hidden-the_row-Stmt-0 s.hidden-the_row-Arm-1 b.hidden-the_row-Expr-0 b.hidden-the_row-Expr-Chain-1-2-1 b.hidden-the_row-Select-5 b.hidden-the_row-Item-6 b.hidden-the_row-FromItem-7 b.hidden-the_row-Key-8 view.roll-Select view.roll-Query denote.Hole.Carrier.hidden denote.Hole.Carrier.roll view.out-Select denote.Hole.Carrier.out denote.Hole.Carrier.shown b.shown-the_row-Item-6 b.shown-the_row-Key-8
returns-clause-two_rows c = refl

pub returns-clause-first_of_two : goal.returns-clause-first_of_two
unfolding s.hidden-the_row-Stmt-0 s.hidden-the_row-Arm-1 b.hidden-the_row-Expr-0 b.hidden-the_row-Expr-Chain-1-2-1 b.hidden-the_row-Select-5 b.hidden-the_row-Item-6 b.hidden-the_row-FromItem-7 b.hidden-the_row-Key-8 view.roll-Select view.roll-Query denote.Hole.Carrier.hidden denote.Hole.Carrier.roll view.out-Select denote.Hole.Carrier.out denote.Hole.Carrier.shown b.shown-the_row-Item-6 b.shown-the_row-Key-8
returns-clause-first_of_two c = refl

pub returns-clause-in_order : goal.returns-clause-in_order
unfolding s.hidden-the_row-Stmt-0 s.hidden-the_row-Arm-1 b.hidden-the_row-Expr-0 b.hidden-the_row-Expr-Chain-1-2-1 b.hidden-the_row-Select-5 b.hidden-the_row-Item-6 b.hidden-the_row-FromItem-7 b.hidden-the_row-Key-8 view.roll-Select view.roll-Query denote.Hole.Carrier.hidden denote.Hole.Carrier.roll view.out-Select denote.Hole.Carrier.out denote.Hole.Carrier.shown b.shown-the_row-Item-6 b.shown-the_row-Key-8
returns-clause-in_order c = refl

pub returns-clause-not_null : goal.returns-clause-not_null
unfolding s.hidden-the_row-Stmt-0 s.hidden-the_row-Arm-1 b.hidden-the_row-Expr-0 b.hidden-the_row-Expr-Chain-1-2-1 b.hidden-the_row-Select-5 b.hidden-the_row-Item-6 b.hidden-the_row-FromItem-7 b.hidden-the_row-Key-8 view.roll-Select view.roll-Query denote.Hole.Carrier.hidden denote.Hole.Carrier.roll view.out-Select denote.Hole.Carrier.out denote.Hole.Carrier.shown b.shown-the_row-Item-6 b.shown-the_row-Key-8
returns-clause-not_null c = refl

pub returns-clause-converted : goal.returns-clause-converted
unfolding s.hidden-the_row-Stmt-0 s.hidden-the_row-Arm-1 b.hidden-the_row-Expr-0 b.hidden-the_row-Expr-Chain-1-2-1 b.hidden-the_row-Select-5 b.hidden-the_row-Item-6 b.hidden-the_row-FromItem-7 b.hidden-the_row-Key-8 view.roll-Select view.roll-Query denote.Hole.Carrier.hidden denote.Hole.Carrier.roll view.out-Select denote.Hole.Carrier.out denote.Hole.Carrier.shown b.shown-the_row-Item-6 b.shown-the_row-Key-8
returns-clause-converted c = refl

pub returns-clause-too_great : goal.returns-clause-too_great
unfolding s.hidden-the_row-Stmt-0 s.hidden-the_row-Arm-1 b.hidden-the_row-Expr-0 b.hidden-the_row-Expr-Chain-1-2-1 b.hidden-the_row-Select-5 b.hidden-the_row-Item-6 b.hidden-the_row-FromItem-7 b.hidden-the_row-Key-8 view.roll-Select view.roll-Query denote.Hole.Carrier.hidden denote.Hole.Carrier.roll view.out-Select denote.Hole.Carrier.out denote.Hole.Carrier.shown b.shown-the_row-Item-6 b.shown-the_row-Key-8
returns-clause-too_great c = refl

pub returns-clause-then_null : goal.returns-clause-then_null
unfolding s.hidden-the_row-Stmt-0 s.hidden-the_row-Arm-1 b.hidden-the_row-Expr-0 b.hidden-the_row-Expr-Chain-1-2-1 b.hidden-the_row-Select-5 b.hidden-the_row-Item-6 b.hidden-the_row-FromItem-7 b.hidden-the_row-Key-8 view.roll-Select view.roll-Query denote.Hole.Carrier.hidden denote.Hole.Carrier.roll view.out-Select denote.Hole.Carrier.out denote.Hole.Carrier.shown b.shown-the_row-Item-6 b.shown-the_row-Key-8
returns-clause-then_null c = refl

pub returns-clause-unmarked : goal.returns-clause-unmarked
unfolding s.hidden-the_row-Stmt-0 s.hidden-the_row-Arm-1 b.hidden-the_row-Expr-0 b.hidden-the_row-Expr-Chain-1-2-1 b.hidden-the_row-Select-5 b.hidden-the_row-Item-6 b.hidden-the_row-FromItem-7 b.hidden-the_row-Key-8 view.roll-Select view.roll-Query denote.Hole.Carrier.hidden denote.Hole.Carrier.roll view.out-Select denote.Hole.Carrier.out denote.Hole.Carrier.shown b.shown-the_row-Item-6 b.shown-the_row-Key-8
returns-clause-unmarked c = refl
