use Rattle.std.proofs.Common.{◌≡◌, ◌-◌, length, drop}
use Rattle.anf_build.specs.Passing.{AreNames}
use Rattle.anf_build.proofs.exits.give_all.Given as goal

abbrev pub invariant-loop-done : goal.invariant-loop-done
invariant-loop-done l = (l.count ≡ length l.map) × AreNames (length l.initial.names) (drop (l.count - l.done) l.map) l.names
