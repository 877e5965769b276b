use Rattle.std.proofs.Common.{◌-◌}
use Rattle.function_places.proofs.stuck_places.first_wrong.Given as goal

abbrev pub decreases-loop-number : goal.decreases-loop-number
decreases-loop-number l = 2000 - l.number
