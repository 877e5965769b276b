use Rattle.std.proofs.Common.{◌≡◌}
use Rattle.turn_query.specs.TurnTree.{step_names}
use Rattle.turn_query.proofs.names.step_names.Given as goal

abbrev pub invariant-loop-place : goal.invariant-loop-place
invariant-loop-place l = l.all ≡ step_names l.place
