use Rattle.std.proofs.Common.{refl}
use Rattle.away_trees.specs.declared.queries.Expr.TheBlock as b
use Rattle.away_trees.specs.declared.queries.Expr.TheViews as view
use Rattle.sql_meaning.proofs.examples.a_subquery_is_evaluated_whole.Goals as goal

pub returns-clause-two : goal.returns-clause-two
unfolding b.hidden-the_row-Expr-0 b.hidden-the_row-Expr-Chain-1-2-1 b.hidden-the_row-Expr-2 b.hidden-the_row-Expr-Cases-0-2-3 b.hidden-the_row-Query-4 b.hidden-the_row-Select-5 b.hidden-the_row-Item-6 b.hidden-the_row-FromItem-7 b.hidden-the_row-Key-8 view.roll-Select view.roll-Recursive view.roll-Query denote.Hole.Carrier.hidden denote.Hole.Carrier.roll
returns-clause-two c = refl

pub returns-clause-none : goal.returns-clause-none
unfolding b.hidden-the_row-Expr-0 b.hidden-the_row-Expr-Chain-1-2-1 b.hidden-the_row-Expr-2 b.hidden-the_row-Expr-Cases-0-2-3 b.hidden-the_row-Query-4 b.hidden-the_row-Select-5 b.hidden-the_row-Item-6 b.hidden-the_row-FromItem-7 b.hidden-the_row-Key-8 view.roll-Select view.roll-Recursive view.roll-Query denote.Hole.Carrier.hidden denote.Hole.Carrier.roll
returns-clause-none c = refl

pub returns-clause-empty : goal.returns-clause-empty
unfolding b.hidden-the_row-Expr-0 b.hidden-the_row-Expr-Chain-1-2-1 b.hidden-the_row-Expr-2 b.hidden-the_row-Expr-Cases-0-2-3 b.hidden-the_row-Query-4 b.hidden-the_row-Select-5 b.hidden-the_row-Item-6 b.hidden-the_row-FromItem-7 b.hidden-the_row-Key-8 view.roll-Select view.roll-Recursive view.roll-Query denote.Hole.Carrier.hidden denote.Hole.Carrier.roll
returns-clause-empty c = refl

pub returns-clause-row : goal.returns-clause-row
unfolding b.hidden-the_row-Expr-0 b.hidden-the_row-Expr-Chain-1-2-1 b.hidden-the_row-Expr-2 b.hidden-the_row-Expr-Cases-0-2-3 b.hidden-the_row-Query-4 b.hidden-the_row-Select-5 b.hidden-the_row-Item-6 b.hidden-the_row-FromItem-7 b.hidden-the_row-Key-8 view.roll-Select view.roll-Recursive view.roll-Query denote.Hole.Carrier.hidden denote.Hole.Carrier.roll
returns-clause-row c = refl

pub returns-clause-list : goal.returns-clause-list
unfolding b.hidden-the_row-Expr-0 b.hidden-the_row-Expr-Chain-1-2-1 b.hidden-the_row-Expr-2 b.hidden-the_row-Expr-Cases-0-2-3 b.hidden-the_row-Query-4 b.hidden-the_row-Select-5 b.hidden-the_row-Item-6 b.hidden-the_row-FromItem-7 b.hidden-the_row-Key-8 view.roll-Select view.roll-Recursive view.roll-Query denote.Hole.Carrier.hidden denote.Hole.Carrier.roll
returns-clause-list c = refl

pub returns-clause-unlisted : goal.returns-clause-unlisted
unfolding b.hidden-the_row-Expr-0 b.hidden-the_row-Expr-Chain-1-2-1 b.hidden-the_row-Expr-2 b.hidden-the_row-Expr-Cases-0-2-3 b.hidden-the_row-Query-4 b.hidden-the_row-Select-5 b.hidden-the_row-Item-6 b.hidden-the_row-FromItem-7 b.hidden-the_row-Key-8 view.roll-Select view.roll-Recursive view.roll-Query denote.Hole.Carrier.hidden denote.Hole.Carrier.roll
returns-clause-unlisted c = refl
