use Rattle.std.proofs.Common.{◌≡◌}
use Rattle.ssa_build.specs.FullJoins.{places_below}
use Rattle.ssa_build.proofs.phis.full_places.Given as goal

abbrev pub invariant-loop-block : goal.invariant-loop-block
invariant-loop-block l = l.places.items ≡ places_below l.full l.block
