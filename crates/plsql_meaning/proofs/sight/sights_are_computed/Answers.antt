use Rattle.std.proofs.Common.{refl, ap, false, [], replicate}
use Rattle.std.proofs.lemmas.Bool.{false≢true}
use Rattle.away_trees.specs.declared.statements.Stmt.TheBlock as s
use Rattle.away_trees.specs.declared.queries.Expr.TheBlock as b
use Rattle.away_trees.specs.declared.queries.Expr.TheViews as view
use Rattle.away_values.specs.declared.values.Value.TheVariants as val
use Rattle.plsql_meaning.specs.Examples.{entering_again}
use Rattle.plsql_meaning.specs.Functions.{answer_of, over}
use Rattle.plsql_meaning.specs.Sight.{of_expressions}
use Rattle.plsql_meaning.proofs.InSight.{statement_alike}
use Rattle.plsql_meaning.proofs.Readers.{expressions_are_readers}
use Rattle.plsql_meaning.proofs.sight.sights_are_computed.Goals as goal

pub returns-clause-seen : goal.returns-clause-seen
unfolding s.hidden-the_row-Stmt-0 s.hidden-the_row-Arm-1 b.hidden-the_row-Expr-0 b.hidden-the_row-Expr-Chain-1-2-1 b.hidden-the_row-Select-5 b.hidden-the_row-Item-6 b.hidden-the_row-FromItem-7 b.hidden-the_row-Key-8 view.roll-Select view.roll-Query denote.Hole.Carrier.hidden denote.Hole.Carrier.roll
returns-clause-seen c = refl

pub returns-clause-unseen : goal.returns-clause-unseen
unfolding s.hidden-the_row-Stmt-0 s.hidden-the_row-Arm-1 b.hidden-the_row-Expr-0 b.hidden-the_row-Expr-Chain-1-2-1 b.hidden-the_row-Select-5 b.hidden-the_row-Item-6 b.hidden-the_row-FromItem-7 b.hidden-the_row-Key-8 view.roll-Select view.roll-Query denote.Hole.Carrier.hidden denote.Hole.Carrier.roll
returns-clause-unseen c = refl

pub returns-clause-used : goal.returns-clause-used
unfolding s.hidden-the_row-Stmt-0 s.hidden-the_row-Arm-1 b.hidden-the_row-Expr-0 b.hidden-the_row-Expr-Chain-1-2-1 b.hidden-the_row-Select-5 b.hidden-the_row-Item-6 b.hidden-the_row-FromItem-7 b.hidden-the_row-Key-8 view.roll-Select view.roll-Query denote.Hole.Carrier.hidden denote.Hole.Carrier.roll
returns-clause-used c = λ env long.
    ap answer_of (statement_alike (over [] []) (of_expressions 0) (expressions_are_readers [] []) entering_again 0 (λ i. false) refl env (replicate 4 val.Null) 3
    (record { long = long; values = λ i h. absurd (false≢true h) })).outcome
