use Rattle.std.proofs.Common.{◌≡◌, ◌≤◌, ◌+◌, ◌*◌}
use Rattle.cte_template.specs.Making.{making}
use Rattle.cte_template.specs.Places.{place_of}
use Rattle.cte_template.specs.CarriedWalks.{rest, from_block}
use Rattle.cte_template.proofs.body.+bodies.Given as goal

abbrev pub decreases-body_of : goal.decreases-body_of
decreases-body_of l = 8 * l.most

abbrev pub decreases-visited : goal.decreases-visited
decreases-visited l = 8 * l.left + 6

abbrev pub decreases-left_by : goal.decreases-left_by
decreases-left_by l = 8 * l.left + 5

abbrev pub decreases-picked : goal.decreases-picked
decreases-picked l = 8 * l.left + 4

abbrev pub decreases-arm : goal.decreases-arm
decreases-arm l = 8 * l.left + 3

abbrev pub decreases-through : goal.decreases-through
decreases-through l = 8 * l.left + 2

abbrev pub invariant-body_of-loop-left : goal.invariant-body_of-loop-left
invariant-body_of-loop-left l =
    (l.left ≤ l.fn.most)
    × (rest (making l.w) l.w.carried.now l.depth (place_of l.pairs) l.draft (from_block (making l.w) l.left l.block)
    ≡ rest (making l.w) l.w.carried.now l.depth (place_of l.fn.pairs) l.fn.draft (from_block (making l.w) l.fn.most l.fn.block))

abbrev pub decreases-body_of-loop-left : goal.decreases-body_of-loop-left
decreases-body_of-loop-left l = l.left
