use Rattle.std.proofs.Common.{◌≡◌, ◌++◌, drop}
use Rattle.call_expand.specs.Untailing.{sets}
use Rattle.call_expand.proofs.turns.sets.Given as goal

abbrev pub invariant-loop-a : goal.invariant-loop-a
invariant-loop-a l = l.all ++ sets l.names l.seen l.at (drop l.a-index l.args) ≡ sets l.names l.seen l.k l.args
