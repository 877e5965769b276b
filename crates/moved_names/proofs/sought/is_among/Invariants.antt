use Rattle.std.proofs.Common.{◌≡◌, drop}
use Rattle.away_names.specs.Lookups.{is_among}
use Rattle.moved_names.proofs.sought.is_among.Given as goal

abbrev pub invariant-loop-m : goal.invariant-loop-m
invariant-loop-m l = is_among l.n l.names ≡ is_among l.n (drop l.m-index l.names)
