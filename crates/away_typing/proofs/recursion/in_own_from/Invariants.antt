use Rattle.std.proofs.Common.{◌≡◌, ◌++◌, drop, map, length}
use Rattle.std.specs.List.{list_any}
use Rattle.away_trees.specs.declared.queries.Expr.TheViews.{out-FromItem}
use Rattle.away_typing.specs.Wholes.{is_table}
use Rattle.away_typing.proofs.recursion.in_own_from.Given as goal

abbrev pub invariant-loop-f : goal.invariant-loop-f
invariant-loop-f l = list_any (λ f. is_table l.name (out-FromItem f).source) l.from ≡ list_any (λ f. is_table l.name (out-FromItem f).source) (drop l.f-index l.from)
