use Rattle.std.proofs.Common.{refl}
use Rattle.away_trees.specs.declared.queries.Expr.TheBlock as b
use Rattle.away_trees.specs.declared.queries.Expr.TheViews as view
use Rattle.away_names.specs.Naming.{names_or}
use Rattle.qualified_names.specs.Sight.{reference, column_name}
use Rattle.qualified_names.specs.Trees.{qualified_shown}
use Rattle.qualified_names.proofs.laws.worked_queries_have_names.Goals as goal

pub returns-clause-joined : goal.returns-clause-joined
unfolding b.hidden-the_row-Expr-0 b.hidden-the_row-Query-4 b.hidden-the_row-Select-5 b.hidden-the_row-Item-6 b.hidden-the_row-FromItem-7 b.hidden-the_row-Key-8 view.roll-Select view.roll-Query view.roll-Recursive denote.Hole.Carrier.hidden denote.Hole.Carrier.roll qualified_shown reference column_name names_or
returns-clause-joined c = refl

pub returns-clause-recursive : goal.returns-clause-recursive
unfolding b.hidden-the_row-Expr-0 b.hidden-the_row-Query-4 b.hidden-the_row-Select-5 b.hidden-the_row-Item-6 b.hidden-the_row-FromItem-7 b.hidden-the_row-Key-8 view.roll-Select view.roll-Query view.roll-Recursive denote.Hole.Carrier.hidden denote.Hole.Carrier.roll qualified_shown reference column_name names_or
returns-clause-recursive c = refl
