use Rattle.std.specs.Prelude.{◌≡◌}
use Rattle.inline_calls.specs.MarkedFaults.{place}
use Rattle.inline_calls.proofs.FaultRules.{place_from}
use Rattle.inline_calls.proofs.faults.place_of.Given as goal

abbrev pub invariant-loop-at : goal.invariant-loop-at
invariant-loop-at l = place_from l.class l.classes l.at ≡ place l.class l.classes
