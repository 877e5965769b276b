use Rattle.std.proofs.Common.{◌≡◌, drop}
use Rattle.std.specs.List.{list_any}
use Rattle.away_names.specs.Lookups.{offers}
use Rattle.away_names.proofs.lookups.any_offers.Given as goal

abbrev pub invariant-loop-seen : goal.invariant-loop-seen
invariant-loop-seen l = list_any (offers l.n) l.level ≡ list_any (offers l.n) (drop l.seen-index l.level)
