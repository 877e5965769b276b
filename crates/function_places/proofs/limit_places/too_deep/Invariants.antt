use Rattle.std.proofs.Common.{◌-◌}
use Rattle.function_places.proofs.TooDeep.{Between}
use Rattle.function_places.proofs.limit_places.too_deep.Given as goal

abbrev pub invariant-loop-low : goal.invariant-loop-low
invariant-loop-low l = Between l.list l.limit l.low l.high

abbrev pub decreases-loop-low : goal.decreases-loop-low
decreases-loop-low l = l.high - l.low
