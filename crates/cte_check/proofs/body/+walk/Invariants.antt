use Rattle.std.proofs.Common.{◌+◌, ◌*◌}
use Rattle.cte_check.proofs.Walking.{WalksOn}
use Rattle.cte_check.proofs.body.+walk.Given as goal

abbrev pub decreases-arm : goal.decreases-arm
decreases-arm l = 6 * l.w.now.fuel + 2

abbrev pub decreases-block : goal.decreases-block
decreases-block l = 6 * l.w.fuel + 5

abbrev pub decreases-body : goal.decreases-body
decreases-body l = 6 * l.start.fuel + 1

abbrev pub decreases-end : goal.decreases-end
decreases-end l = 6 * l.w.fuel + 4

abbrev pub decreases-pick : goal.decreases-pick
decreases-pick l = 6 * l.w.now.fuel + 3

abbrev pub decreases-advance : goal.decreases-advance
decreases-advance l = 6 * l.w.fuel

-- what ends the walk from here ends it from its start
abbrev pub invariant-body-onward : goal.invariant-body-onward
invariant-body-onward l = WalksOn l.g l.fn.start l.w

abbrev pub decreases-body-onward : goal.decreases-body-onward
decreases-body-onward l = l.w.fuel
