use Rattle.std.proofs.Common.{refl}
use Rattle.away_trees.specs.declared.queries.Expr.TheBlock as b
use Rattle.away_trees.specs.declared.queries.Expr.TheViews as view
use Rattle.sql_meaning.proofs.examples.operators_stop_where_decided.Goals as goal

pub returns-clause-and_decided : goal.returns-clause-and_decided
unfolding b.hidden-the_row-Expr-0 b.hidden-the_row-Expr-Chain-1-2-1 b.hidden-the_row-Expr-2 b.hidden-the_row-Expr-Cases-0-2-3 b.hidden-the_row-Query-4 b.hidden-the_row-Select-5 b.hidden-the_row-Item-6 b.hidden-the_row-FromItem-7 b.hidden-the_row-Key-8 view.roll-Select view.roll-Recursive view.roll-Query denote.Hole.Carrier.hidden denote.Hole.Carrier.roll
returns-clause-and_decided c = refl

pub returns-clause-and_null : goal.returns-clause-and_null
unfolding b.hidden-the_row-Expr-0 b.hidden-the_row-Expr-Chain-1-2-1 b.hidden-the_row-Expr-2 b.hidden-the_row-Expr-Cases-0-2-3 b.hidden-the_row-Query-4 b.hidden-the_row-Select-5 b.hidden-the_row-Item-6 b.hidden-the_row-FromItem-7 b.hidden-the_row-Key-8 view.roll-Select view.roll-Recursive view.roll-Query denote.Hole.Carrier.hidden denote.Hole.Carrier.roll
returns-clause-and_null c = refl

pub returns-clause-and_false : goal.returns-clause-and_false
unfolding b.hidden-the_row-Expr-0 b.hidden-the_row-Expr-Chain-1-2-1 b.hidden-the_row-Expr-2 b.hidden-the_row-Expr-Cases-0-2-3 b.hidden-the_row-Query-4 b.hidden-the_row-Select-5 b.hidden-the_row-Item-6 b.hidden-the_row-FromItem-7 b.hidden-the_row-Key-8 view.roll-Select view.roll-Recursive view.roll-Query denote.Hole.Carrier.hidden denote.Hole.Carrier.roll
returns-clause-and_false c = refl

pub returns-clause-or_decided : goal.returns-clause-or_decided
unfolding b.hidden-the_row-Expr-0 b.hidden-the_row-Expr-Chain-1-2-1 b.hidden-the_row-Expr-2 b.hidden-the_row-Expr-Cases-0-2-3 b.hidden-the_row-Query-4 b.hidden-the_row-Select-5 b.hidden-the_row-Item-6 b.hidden-the_row-FromItem-7 b.hidden-the_row-Key-8 view.roll-Select view.roll-Recursive view.roll-Query denote.Hole.Carrier.hidden denote.Hole.Carrier.roll
returns-clause-or_decided c = refl

pub returns-clause-or_null : goal.returns-clause-or_null
unfolding b.hidden-the_row-Expr-0 b.hidden-the_row-Expr-Chain-1-2-1 b.hidden-the_row-Expr-2 b.hidden-the_row-Expr-Cases-0-2-3 b.hidden-the_row-Query-4 b.hidden-the_row-Select-5 b.hidden-the_row-Item-6 b.hidden-the_row-FromItem-7 b.hidden-the_row-Key-8 view.roll-Select view.roll-Recursive view.roll-Query denote.Hole.Carrier.hidden denote.Hole.Carrier.roll
returns-clause-or_null c = refl

pub returns-clause-coalesce_decided : goal.returns-clause-coalesce_decided
unfolding b.hidden-the_row-Expr-0 b.hidden-the_row-Expr-Chain-1-2-1 b.hidden-the_row-Expr-2 b.hidden-the_row-Expr-Cases-0-2-3 b.hidden-the_row-Query-4 b.hidden-the_row-Select-5 b.hidden-the_row-Item-6 b.hidden-the_row-FromItem-7 b.hidden-the_row-Key-8 view.roll-Select view.roll-Recursive view.roll-Query denote.Hole.Carrier.hidden denote.Hole.Carrier.roll
returns-clause-coalesce_decided c = refl

pub returns-clause-coalesce_null : goal.returns-clause-coalesce_null
unfolding b.hidden-the_row-Expr-0 b.hidden-the_row-Expr-Chain-1-2-1 b.hidden-the_row-Expr-2 b.hidden-the_row-Expr-Cases-0-2-3 b.hidden-the_row-Query-4 b.hidden-the_row-Select-5 b.hidden-the_row-Item-6 b.hidden-the_row-FromItem-7 b.hidden-the_row-Key-8 view.roll-Select view.roll-Recursive view.roll-Query denote.Hole.Carrier.hidden denote.Hole.Carrier.roll
returns-clause-coalesce_null c = refl

pub returns-clause-case_decided : goal.returns-clause-case_decided
unfolding b.hidden-the_row-Expr-0 b.hidden-the_row-Expr-Chain-1-2-1 b.hidden-the_row-Expr-2 b.hidden-the_row-Expr-Cases-0-2-3 b.hidden-the_row-Query-4 b.hidden-the_row-Select-5 b.hidden-the_row-Item-6 b.hidden-the_row-FromItem-7 b.hidden-the_row-Key-8 view.roll-Select view.roll-Recursive view.roll-Query denote.Hole.Carrier.hidden denote.Hole.Carrier.roll
returns-clause-case_decided c = refl

pub returns-clause-case_null : goal.returns-clause-case_null
unfolding b.hidden-the_row-Expr-0 b.hidden-the_row-Expr-Chain-1-2-1 b.hidden-the_row-Expr-2 b.hidden-the_row-Expr-Cases-0-2-3 b.hidden-the_row-Query-4 b.hidden-the_row-Select-5 b.hidden-the_row-Item-6 b.hidden-the_row-FromItem-7 b.hidden-the_row-Key-8 view.roll-Select view.roll-Recursive view.roll-Query denote.Hole.Carrier.hidden denote.Hole.Carrier.roll
returns-clause-case_null c = refl

pub returns-clause-case_none : goal.returns-clause-case_none
unfolding b.hidden-the_row-Expr-0 b.hidden-the_row-Expr-Chain-1-2-1 b.hidden-the_row-Expr-2 b.hidden-the_row-Expr-Cases-0-2-3 b.hidden-the_row-Query-4 b.hidden-the_row-Select-5 b.hidden-the_row-Item-6 b.hidden-the_row-FromItem-7 b.hidden-the_row-Key-8 view.roll-Select view.roll-Recursive view.roll-Query denote.Hole.Carrier.hidden denote.Hole.Carrier.roll
returns-clause-case_none c = refl

pub returns-clause-between_decided : goal.returns-clause-between_decided
unfolding b.hidden-the_row-Expr-0 b.hidden-the_row-Expr-Chain-1-2-1 b.hidden-the_row-Expr-2 b.hidden-the_row-Expr-Cases-0-2-3 b.hidden-the_row-Query-4 b.hidden-the_row-Select-5 b.hidden-the_row-Item-6 b.hidden-the_row-FromItem-7 b.hidden-the_row-Key-8 view.roll-Select view.roll-Recursive view.roll-Query denote.Hole.Carrier.hidden denote.Hole.Carrier.roll
returns-clause-between_decided c = refl

pub returns-clause-between_null : goal.returns-clause-between_null
unfolding b.hidden-the_row-Expr-0 b.hidden-the_row-Expr-Chain-1-2-1 b.hidden-the_row-Expr-2 b.hidden-the_row-Expr-Cases-0-2-3 b.hidden-the_row-Query-4 b.hidden-the_row-Select-5 b.hidden-the_row-Item-6 b.hidden-the_row-FromItem-7 b.hidden-the_row-Key-8 view.roll-Select view.roll-Recursive view.roll-Query denote.Hole.Carrier.hidden denote.Hole.Carrier.roll
returns-clause-between_null c = refl

pub returns-clause-not_between : goal.returns-clause-not_between
unfolding b.hidden-the_row-Expr-0 b.hidden-the_row-Expr-Chain-1-2-1 b.hidden-the_row-Expr-2 b.hidden-the_row-Expr-Cases-0-2-3 b.hidden-the_row-Query-4 b.hidden-the_row-Select-5 b.hidden-the_row-Item-6 b.hidden-the_row-FromItem-7 b.hidden-the_row-Key-8 view.roll-Select view.roll-Recursive view.roll-Query denote.Hole.Carrier.hidden denote.Hole.Carrier.roll
returns-clause-not_between c = refl

pub returns-clause-among_decided : goal.returns-clause-among_decided
unfolding b.hidden-the_row-Expr-0 b.hidden-the_row-Expr-Chain-1-2-1 b.hidden-the_row-Expr-2 b.hidden-the_row-Expr-Cases-0-2-3 b.hidden-the_row-Query-4 b.hidden-the_row-Select-5 b.hidden-the_row-Item-6 b.hidden-the_row-FromItem-7 b.hidden-the_row-Key-8 view.roll-Select view.roll-Recursive view.roll-Query denote.Hole.Carrier.hidden denote.Hole.Carrier.roll
returns-clause-among_decided c = refl

pub returns-clause-among_null : goal.returns-clause-among_null
unfolding b.hidden-the_row-Expr-0 b.hidden-the_row-Expr-Chain-1-2-1 b.hidden-the_row-Expr-2 b.hidden-the_row-Expr-Cases-0-2-3 b.hidden-the_row-Query-4 b.hidden-the_row-Select-5 b.hidden-the_row-Item-6 b.hidden-the_row-FromItem-7 b.hidden-the_row-Key-8 view.roll-Select view.roll-Recursive view.roll-Query denote.Hole.Carrier.hidden denote.Hole.Carrier.roll
returns-clause-among_null c = refl

pub returns-clause-among_later : goal.returns-clause-among_later
unfolding b.hidden-the_row-Expr-0 b.hidden-the_row-Expr-Chain-1-2-1 b.hidden-the_row-Expr-2 b.hidden-the_row-Expr-Cases-0-2-3 b.hidden-the_row-Query-4 b.hidden-the_row-Select-5 b.hidden-the_row-Item-6 b.hidden-the_row-FromItem-7 b.hidden-the_row-Key-8 view.roll-Select view.roll-Recursive view.roll-Query denote.Hole.Carrier.hidden denote.Hole.Carrier.roll
returns-clause-among_later c = refl

pub returns-clause-among_none : goal.returns-clause-among_none
unfolding b.hidden-the_row-Expr-0 b.hidden-the_row-Expr-Chain-1-2-1 b.hidden-the_row-Expr-2 b.hidden-the_row-Expr-Cases-0-2-3 b.hidden-the_row-Query-4 b.hidden-the_row-Select-5 b.hidden-the_row-Item-6 b.hidden-the_row-FromItem-7 b.hidden-the_row-Key-8 view.roll-Select view.roll-Recursive view.roll-Query denote.Hole.Carrier.hidden denote.Hole.Carrier.roll
returns-clause-among_none c = refl

pub returns-clause-greatest_takes_all : goal.returns-clause-greatest_takes_all
unfolding b.hidden-the_row-Expr-0 b.hidden-the_row-Expr-Chain-1-2-1 b.hidden-the_row-Expr-2 b.hidden-the_row-Expr-Cases-0-2-3 b.hidden-the_row-Query-4 b.hidden-the_row-Select-5 b.hidden-the_row-Item-6 b.hidden-the_row-FromItem-7 b.hidden-the_row-Key-8 view.roll-Select view.roll-Recursive view.roll-Query denote.Hole.Carrier.hidden denote.Hole.Carrier.roll
returns-clause-greatest_takes_all c = refl

pub returns-clause-from_the_left : goal.returns-clause-from_the_left
unfolding b.hidden-the_row-Expr-0 b.hidden-the_row-Expr-Chain-1-2-1 b.hidden-the_row-Expr-2 b.hidden-the_row-Expr-Cases-0-2-3 b.hidden-the_row-Query-4 b.hidden-the_row-Select-5 b.hidden-the_row-Item-6 b.hidden-the_row-FromItem-7 b.hidden-the_row-Key-8 view.roll-Select view.roll-Recursive view.roll-Query denote.Hole.Carrier.hidden denote.Hole.Carrier.roll
returns-clause-from_the_left c = refl

pub returns-clause-first_fault : goal.returns-clause-first_fault
unfolding b.hidden-the_row-Expr-0 b.hidden-the_row-Expr-Chain-1-2-1 b.hidden-the_row-Expr-2 b.hidden-the_row-Expr-Cases-0-2-3 b.hidden-the_row-Query-4 b.hidden-the_row-Select-5 b.hidden-the_row-Item-6 b.hidden-the_row-FromItem-7 b.hidden-the_row-Key-8 view.roll-Select view.roll-Recursive view.roll-Query denote.Hole.Carrier.hidden denote.Hole.Carrier.roll
returns-clause-first_fault c = refl
