use Rattle.std.proofs.Common.{◌≡◌, take}
use Rattle.anf_build.specs.Passing.{arguments}
use Rattle.anf_build.proofs.calls.arguments.Given as goal

abbrev pub invariant-loop-pair : goal.invariant-loop-pair
invariant-loop-pair l = l.args ≡ arguments l.tables l.names l.callee (take l.pair-index l.map)
