use Rattle.std.proofs.Common.{refl}
use Rattle.away_trees.specs.declared.statements.Stmt.TheBlock as s
use Rattle.away_trees.specs.declared.queries.Expr.TheBlock as b
use Rattle.away_trees.specs.declared.queries.Expr.TheViews as view
use Rattle.plsql_meaning.proofs.examples.for_has_its_own_counter.Goals as goal

pub returns-clause-sum : goal.returns-clause-sum
unfolding s.hidden-the_row-Stmt-0 s.hidden-the_row-Arm-1 b.hidden-the_row-Expr-0 b.hidden-the_row-Expr-Chain-1-2-1 b.hidden-the_row-Select-5 b.hidden-the_row-Item-6 b.hidden-the_row-FromItem-7 b.hidden-the_row-Key-8 view.roll-Select view.roll-Query denote.Hole.Carrier.hidden denote.Hole.Carrier.roll
returns-clause-sum c = refl

pub returns-clause-fewer : goal.returns-clause-fewer
unfolding s.hidden-the_row-Stmt-0 s.hidden-the_row-Arm-1 b.hidden-the_row-Expr-0 b.hidden-the_row-Expr-Chain-1-2-1 b.hidden-the_row-Select-5 b.hidden-the_row-Item-6 b.hidden-the_row-FromItem-7 b.hidden-the_row-Key-8 view.roll-Select view.roll-Query denote.Hole.Carrier.hidden denote.Hole.Carrier.roll
returns-clause-fewer c = refl

pub returns-clause-down : goal.returns-clause-down
unfolding s.hidden-the_row-Stmt-0 s.hidden-the_row-Arm-1 b.hidden-the_row-Expr-0 b.hidden-the_row-Expr-Chain-1-2-1 b.hidden-the_row-Select-5 b.hidden-the_row-Item-6 b.hidden-the_row-FromItem-7 b.hidden-the_row-Key-8 view.roll-Select view.roll-Query denote.Hole.Carrier.hidden denote.Hole.Carrier.roll
returns-clause-down c = refl

pub returns-clause-none : goal.returns-clause-none
unfolding s.hidden-the_row-Stmt-0 s.hidden-the_row-Arm-1 b.hidden-the_row-Expr-0 b.hidden-the_row-Expr-Chain-1-2-1 b.hidden-the_row-Select-5 b.hidden-the_row-Item-6 b.hidden-the_row-FromItem-7 b.hidden-the_row-Key-8 view.roll-Select view.roll-Query denote.Hole.Carrier.hidden denote.Hole.Carrier.roll
returns-clause-none c = refl

pub returns-clause-at_the_end : goal.returns-clause-at_the_end
unfolding s.hidden-the_row-Stmt-0 s.hidden-the_row-Arm-1 b.hidden-the_row-Expr-0 b.hidden-the_row-Expr-Chain-1-2-1 b.hidden-the_row-Select-5 b.hidden-the_row-Item-6 b.hidden-the_row-FromItem-7 b.hidden-the_row-Key-8 view.roll-Select view.roll-Query denote.Hole.Carrier.hidden denote.Hole.Carrier.roll
returns-clause-at_the_end c = refl

pub returns-clause-at_the_least : goal.returns-clause-at_the_least
unfolding s.hidden-the_row-Stmt-0 s.hidden-the_row-Arm-1 b.hidden-the_row-Expr-0 b.hidden-the_row-Expr-Chain-1-2-1 b.hidden-the_row-Select-5 b.hidden-the_row-Item-6 b.hidden-the_row-FromItem-7 b.hidden-the_row-Key-8 view.roll-Select view.roll-Query denote.Hole.Carrier.hidden denote.Hole.Carrier.roll
returns-clause-at_the_least c = refl

pub returns-clause-by_the_greatest : goal.returns-clause-by_the_greatest
unfolding s.hidden-the_row-Stmt-0 s.hidden-the_row-Arm-1 b.hidden-the_row-Expr-0 b.hidden-the_row-Expr-Chain-1-2-1 b.hidden-the_row-Select-5 b.hidden-the_row-Item-6 b.hidden-the_row-FromItem-7 b.hidden-the_row-Key-8 view.roll-Select view.roll-Query denote.Hole.Carrier.hidden denote.Hole.Carrier.roll
returns-clause-by_the_greatest c = refl

pub returns-clause-assigned : goal.returns-clause-assigned
unfolding s.hidden-the_row-Stmt-0 s.hidden-the_row-Arm-1 b.hidden-the_row-Expr-0 b.hidden-the_row-Expr-Chain-1-2-1 b.hidden-the_row-Select-5 b.hidden-the_row-Item-6 b.hidden-the_row-FromItem-7 b.hidden-the_row-Key-8 view.roll-Select view.roll-Query denote.Hole.Carrier.hidden denote.Hole.Carrier.roll
returns-clause-assigned c = refl

pub returns-clause-continued : goal.returns-clause-continued
unfolding s.hidden-the_row-Stmt-0 s.hidden-the_row-Arm-1 b.hidden-the_row-Expr-0 b.hidden-the_row-Expr-Chain-1-2-1 b.hidden-the_row-Select-5 b.hidden-the_row-Item-6 b.hidden-the_row-FromItem-7 b.hidden-the_row-Key-8 view.roll-Select view.roll-Query denote.Hole.Carrier.hidden denote.Hole.Carrier.roll
returns-clause-continued c = refl

pub returns-clause-bound : goal.returns-clause-bound
unfolding s.hidden-the_row-Stmt-0 s.hidden-the_row-Arm-1 b.hidden-the_row-Expr-0 b.hidden-the_row-Expr-Chain-1-2-1 b.hidden-the_row-Select-5 b.hidden-the_row-Item-6 b.hidden-the_row-FromItem-7 b.hidden-the_row-Key-8 view.roll-Select view.roll-Query denote.Hole.Carrier.hidden denote.Hole.Carrier.roll
returns-clause-bound c = refl

pub returns-clause-null_first : goal.returns-clause-null_first
unfolding s.hidden-the_row-Stmt-0 s.hidden-the_row-Arm-1 b.hidden-the_row-Expr-0 b.hidden-the_row-Expr-Chain-1-2-1 b.hidden-the_row-Select-5 b.hidden-the_row-Item-6 b.hidden-the_row-FromItem-7 b.hidden-the_row-Key-8 view.roll-Select view.roll-Query denote.Hole.Carrier.hidden denote.Hole.Carrier.roll
returns-clause-null_first c = refl

pub returns-clause-null_last : goal.returns-clause-null_last
unfolding s.hidden-the_row-Stmt-0 s.hidden-the_row-Arm-1 b.hidden-the_row-Expr-0 b.hidden-the_row-Expr-Chain-1-2-1 b.hidden-the_row-Select-5 b.hidden-the_row-Item-6 b.hidden-the_row-FromItem-7 b.hidden-the_row-Key-8 view.roll-Select view.roll-Query denote.Hole.Carrier.hidden denote.Hole.Carrier.roll
returns-clause-null_last c = refl

pub returns-clause-null_step : goal.returns-clause-null_step
unfolding s.hidden-the_row-Stmt-0 s.hidden-the_row-Arm-1 b.hidden-the_row-Expr-0 b.hidden-the_row-Expr-Chain-1-2-1 b.hidden-the_row-Select-5 b.hidden-the_row-Item-6 b.hidden-the_row-FromItem-7 b.hidden-the_row-Key-8 view.roll-Select view.roll-Query denote.Hole.Carrier.hidden denote.Hole.Carrier.roll
returns-clause-null_step c = refl

pub returns-clause-zero_step : goal.returns-clause-zero_step
unfolding s.hidden-the_row-Stmt-0 s.hidden-the_row-Arm-1 b.hidden-the_row-Expr-0 b.hidden-the_row-Expr-Chain-1-2-1 b.hidden-the_row-Select-5 b.hidden-the_row-Item-6 b.hidden-the_row-FromItem-7 b.hidden-the_row-Key-8 view.roll-Select view.roll-Query denote.Hole.Carrier.hidden denote.Hole.Carrier.roll
returns-clause-zero_step c = refl

pub returns-clause-fault_first : goal.returns-clause-fault_first
unfolding s.hidden-the_row-Stmt-0 s.hidden-the_row-Arm-1 b.hidden-the_row-Expr-0 b.hidden-the_row-Expr-Chain-1-2-1 b.hidden-the_row-Select-5 b.hidden-the_row-Item-6 b.hidden-the_row-FromItem-7 b.hidden-the_row-Key-8 view.roll-Select view.roll-Query denote.Hole.Carrier.hidden denote.Hole.Carrier.roll
returns-clause-fault_first c = refl

pub returns-clause-down_by_the_greatest : goal.returns-clause-down_by_the_greatest
unfolding s.hidden-the_row-Stmt-0 s.hidden-the_row-Arm-1 b.hidden-the_row-Expr-0 b.hidden-the_row-Expr-Chain-1-2-1 b.hidden-the_row-Select-5 b.hidden-the_row-Item-6 b.hidden-the_row-FromItem-7 b.hidden-the_row-Key-8 view.roll-Select view.roll-Query denote.Hole.Carrier.hidden denote.Hole.Carrier.roll
returns-clause-down_by_the_greatest c = refl

pub returns-clause-first_converted : goal.returns-clause-first_converted
unfolding s.hidden-the_row-Stmt-0 s.hidden-the_row-Arm-1 b.hidden-the_row-Expr-0 b.hidden-the_row-Expr-Chain-1-2-1 b.hidden-the_row-Select-5 b.hidden-the_row-Item-6 b.hidden-the_row-FromItem-7 b.hidden-the_row-Key-8 view.roll-Select view.roll-Query denote.Hole.Carrier.hidden denote.Hole.Carrier.roll
returns-clause-first_converted c = refl

pub returns-clause-first_null : goal.returns-clause-first_null
unfolding s.hidden-the_row-Stmt-0 s.hidden-the_row-Arm-1 b.hidden-the_row-Expr-0 b.hidden-the_row-Expr-Chain-1-2-1 b.hidden-the_row-Select-5 b.hidden-the_row-Item-6 b.hidden-the_row-FromItem-7 b.hidden-the_row-Key-8 view.roll-Select view.roll-Query denote.Hole.Carrier.hidden denote.Hole.Carrier.roll
returns-clause-first_null c = refl

pub returns-clause-last_converted : goal.returns-clause-last_converted
unfolding s.hidden-the_row-Stmt-0 s.hidden-the_row-Arm-1 b.hidden-the_row-Expr-0 b.hidden-the_row-Expr-Chain-1-2-1 b.hidden-the_row-Select-5 b.hidden-the_row-Item-6 b.hidden-the_row-FromItem-7 b.hidden-the_row-Key-8 view.roll-Select view.roll-Query denote.Hole.Carrier.hidden denote.Hole.Carrier.roll
returns-clause-last_converted c = refl

pub returns-clause-step_converted : goal.returns-clause-step_converted
unfolding s.hidden-the_row-Stmt-0 s.hidden-the_row-Arm-1 b.hidden-the_row-Expr-0 b.hidden-the_row-Expr-Chain-1-2-1 b.hidden-the_row-Select-5 b.hidden-the_row-Item-6 b.hidden-the_row-FromItem-7 b.hidden-the_row-Key-8 view.roll-Select view.roll-Query denote.Hole.Carrier.hidden denote.Hole.Carrier.roll
returns-clause-step_converted c = refl
