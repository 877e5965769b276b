use Rattle.std.proofs.Common.{◌≡◌, ◌+◌, drop}
use Rattle.turn_query.specs.TurnTree.{over_steps}
use Rattle.turn_query.proofs.levels.over_steps.Given as goal

abbrev pub invariant-loop-i : goal.invariant-loop-i
invariant-loop-i l = over_steps l.columns l.i (l.width + l.i) (drop l.i l.steps) l.item ≡ over_steps l.columns 0 l.width l.steps l.fn.from
