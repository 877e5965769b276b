use Rattle.std.proofs.Common.{◌≡◌, [], drop}
use Rattle.away_names.specs.Places.{scope}
use Rattle.broken_names.proofs.SeenItems.{seen_behind}
use Rattle.broken_names.proofs.sights.seen_from.Given as goal

abbrev pub invariant-loop-f : goal.invariant-loop-f
invariant-loop-f l = seen_behind (scope l.s) [] l.from ≡ seen_behind (scope l.s) l.seen (drop l.f-index l.from)
