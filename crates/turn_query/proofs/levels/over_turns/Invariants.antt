use Rattle.std.proofs.Common.{◌≡◌}
use Rattle.turn_query.specs.Plans.{as_plan}
use Rattle.turn_query.specs.TurnTree.{over_turns}
use Rattle.turn_query.proofs.levels.over_turns.Given as goal

abbrev pub invariant-loop-left : goal.invariant-loop-left
invariant-loop-left l =
    over_turns l.columns l.width (as_plan l.plan) l.left l.item ≡ over_turns l.columns l.width (as_plan l.plan) l.turns l.fn.from

abbrev pub decreases-loop-left : goal.decreases-loop-left
decreases-loop-left l = l.left
