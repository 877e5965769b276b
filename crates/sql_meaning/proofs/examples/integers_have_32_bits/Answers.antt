use Rattle.std.proofs.Common.{refl}
use Rattle.away_trees.specs.declared.queries.Expr.TheBlock as b
use Rattle.away_trees.specs.declared.queries.Expr.TheViews as view
use Rattle.sql_meaning.proofs.examples.integers_have_32_bits.Goals as goal

pub returns-clause-sum : goal.returns-clause-sum
unfolding b.hidden-the_row-Expr-0 b.hidden-the_row-Expr-Chain-1-2-1 b.hidden-the_row-Expr-2 b.hidden-the_row-Expr-Cases-0-2-3 b.hidden-the_row-Query-4 b.hidden-the_row-Select-5 b.hidden-the_row-Item-6 b.hidden-the_row-FromItem-7 b.hidden-the_row-Key-8 view.roll-Select view.roll-Recursive view.roll-Query denote.Hole.Carrier.hidden denote.Hole.Carrier.roll
returns-clause-sum c = refl

pub returns-clause-over_the_top : goal.returns-clause-over_the_top
unfolding b.hidden-the_row-Expr-0 b.hidden-the_row-Expr-Chain-1-2-1 b.hidden-the_row-Expr-2 b.hidden-the_row-Expr-Cases-0-2-3 b.hidden-the_row-Query-4 b.hidden-the_row-Select-5 b.hidden-the_row-Item-6 b.hidden-the_row-FromItem-7 b.hidden-the_row-Key-8 view.roll-Select view.roll-Recursive view.roll-Query denote.Hole.Carrier.hidden denote.Hole.Carrier.roll
returns-clause-over_the_top c = refl

pub returns-clause-null : goal.returns-clause-null
unfolding b.hidden-the_row-Expr-0 b.hidden-the_row-Expr-Chain-1-2-1 b.hidden-the_row-Expr-2 b.hidden-the_row-Expr-Cases-0-2-3 b.hidden-the_row-Query-4 b.hidden-the_row-Select-5 b.hidden-the_row-Item-6 b.hidden-the_row-FromItem-7 b.hidden-the_row-Key-8 view.roll-Select view.roll-Recursive view.roll-Query denote.Hole.Carrier.hidden denote.Hole.Carrier.roll
returns-clause-null c = refl

pub returns-clause-minus : goal.returns-clause-minus
unfolding b.hidden-the_row-Expr-0 b.hidden-the_row-Expr-Chain-1-2-1 b.hidden-the_row-Expr-2 b.hidden-the_row-Expr-Cases-0-2-3 b.hidden-the_row-Query-4 b.hidden-the_row-Select-5 b.hidden-the_row-Item-6 b.hidden-the_row-FromItem-7 b.hidden-the_row-Key-8 view.roll-Select view.roll-Recursive view.roll-Query denote.Hole.Carrier.hidden denote.Hole.Carrier.roll
returns-clause-minus c = refl

pub returns-clause-no_minus : goal.returns-clause-no_minus
unfolding b.hidden-the_row-Expr-0 b.hidden-the_row-Expr-Chain-1-2-1 b.hidden-the_row-Expr-2 b.hidden-the_row-Expr-Cases-0-2-3 b.hidden-the_row-Query-4 b.hidden-the_row-Select-5 b.hidden-the_row-Item-6 b.hidden-the_row-FromItem-7 b.hidden-the_row-Key-8 view.roll-Select view.roll-Recursive view.roll-Query denote.Hole.Carrier.hidden denote.Hole.Carrier.roll
returns-clause-no_minus c = refl

pub returns-clause-least : goal.returns-clause-least
unfolding b.hidden-the_row-Expr-0 b.hidden-the_row-Expr-Chain-1-2-1 b.hidden-the_row-Expr-2 b.hidden-the_row-Expr-Cases-0-2-3 b.hidden-the_row-Query-4 b.hidden-the_row-Select-5 b.hidden-the_row-Item-6 b.hidden-the_row-FromItem-7 b.hidden-the_row-Key-8 view.roll-Select view.roll-Recursive view.roll-Query denote.Hole.Carrier.hidden denote.Hole.Carrier.roll
returns-clause-least c = refl

pub returns-clause-no_cast : goal.returns-clause-no_cast
unfolding b.hidden-the_row-Expr-0 b.hidden-the_row-Expr-Chain-1-2-1 b.hidden-the_row-Expr-2 b.hidden-the_row-Expr-Cases-0-2-3 b.hidden-the_row-Query-4 b.hidden-the_row-Select-5 b.hidden-the_row-Item-6 b.hidden-the_row-FromItem-7 b.hidden-the_row-Key-8 view.roll-Select view.roll-Recursive view.roll-Query denote.Hole.Carrier.hidden denote.Hole.Carrier.roll
returns-clause-no_cast c = refl
