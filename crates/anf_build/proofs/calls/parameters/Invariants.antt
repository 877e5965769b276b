use Rattle.std.proofs.Common.{◌≡◌, take}
use Rattle.anf_build.specs.Passing.{parameters}
use Rattle.anf_build.proofs.calls.parameters.Given as goal

abbrev pub invariant-loop-pair : goal.invariant-loop-pair
invariant-loop-pair l = l.names ≡ parameters l.tables l.block (take l.pair-index l.map)
