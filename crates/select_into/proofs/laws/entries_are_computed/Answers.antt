use Rattle.std.proofs.Common.{refl}
use Rattle.away_trees.specs.declared.queries.Expr.TheBlock as b
use Rattle.away_trees.specs.declared.queries.Expr.TheViews as view
use Rattle.select_into.proofs.laws.entries_are_computed.Goals as goal

pub returns : goal.returns
unfolding b.hidden-the_row-Expr-0 b.hidden-the_row-Expr-Chain-1-2-1 b.hidden-the_row-Select-5 b.hidden-the_row-Item-6 b.hidden-the_row-FromItem-7 b.hidden-the_row-Key-8 view.roll-Select view.roll-Query denote.Hole.Carrier.hidden denote.Hole.Carrier.roll view.out-Select denote.Hole.Carrier.out denote.Hole.Carrier.shown b.shown-the_row-Key-8
returns c = record {
  none = refl;
  one = refl;
  one_alone = refl;
  two = refl;
  first = refl;
  null = refl;
  typed = refl;
  strict = refl;
  lenient = refl;
  converted = refl;
  cast_fits = refl;
  cast_fails = refl;
}
