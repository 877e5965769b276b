use Rattle.std.proofs.Common.{◌≡◌}
use Rattle.tail_rec.specs.Callers.{is_firm}
use Rattle.tail_rec.specs.Walk.{walked}
use Rattle.tail_rec.proofs.walk.walk_calls.Given as goal

abbrev pub invariant-loop-at : goal.invariant-loop-at
invariant-loop-at l = l.reached.items ≡ walked (is_firm l.goto l.callers) l.blocks l.at
