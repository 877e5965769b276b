use Rattle.std.proofs.Common.{refl}
use Rattle.std.proofs.lemmas.Bool.{false≢true}
use Rattle.away_trees.specs.declared.queries.Expr.TheBlock as b
use Rattle.away_trees.specs.declared.queries.Expr.TheViews as view
use Rattle.away_trees.specs.declared.statements.Stmt.TheBlock as s
use Rattle.type_soundness.proofs.answers.worked_types_are_computed.Goals as goal

pub returns : goal.returns
unfolding s.hidden-the_row-Stmt-0 s.hidden-the_row-Arm-1 b.hidden-the_row-Expr-0 b.hidden-the_row-Expr-Chain-1-2-1 b.hidden-the_row-Expr-2 b.hidden-the_row-Expr-Cases-0-2-3 b.hidden-the_row-Query-4 b.hidden-the_row-Select-5 b.hidden-the_row-Item-6 b.hidden-the_row-FromItem-7 b.hidden-the_row-Key-8 view.roll-Select view.roll-Recursive view.roll-Query denote.Hole.Carrier.hidden denote.Hole.Carrier.roll view.out-Select denote.Hole.Carrier.out denote.Hole.Carrier.shown b.shown-the_row-Key-8
returns c = record {
  asked = refl;
  into_asks = refl;
  marked_asks = refl;
  parameters = refl;
  supplied = (tt, tt);
  not_supplied = λ h. h.0;
  greatest = refl;
  too_great = λ h. false≢true h;
  other_sort = λ h. h;
  table = (((tt, (tt, tt)), tt), tt);
  other_table = λ h. h.1.0.0.0;
  no_row = tt;
  other_row = λ h. h.0.0;
}
