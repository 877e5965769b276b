use Rattle.std.proofs.Common.{◌≡◌, drop}
use Rattle.std.specs.List.{list_all}
use Rattle.away_typing.specs.Kinds.{is_right}
use Rattle.away_typing.proofs.shapes.all_right.Given as goal

abbrev pub invariant-loop-k : goal.invariant-loop-k
invariant-loop-k l = list_all is_right l.list ≡ list_all is_right (drop l.k-index l.list)
