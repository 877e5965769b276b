use Rattle.std.proofs.Common.{◌≡◌, ◌+◌, ◌*◌, drop, fold}
use Rattle.call_expand.specs.Moving.{with_made}
use Rattle.call_expand.specs.Plans.{planned_arm, planned_arms, planned_body, planned_stmt}
use Rattle.call_expand.proofs.walk.+moving.Given as goal

abbrev pub invariant-moved_body-loop-s : goal.invariant-moved_body-loop-s
invariant-moved_body-loop-s l = planned_body l.w l.list l.seen l.k ≡ fold (λ a x. with_made a (planned_stmt l.w x l.seen a.next)) (record { it = l.done; next = l.at }) (drop l.s-index l.list)

abbrev pub invariant-moved_arms-loop-a : goal.invariant-moved_arms-loop-a
invariant-moved_arms-loop-a l = planned_arms l.w l.list l.seen l.k ≡ fold (λ a x. with_made a (planned_arm l.w x l.seen a.next)) (record { it = l.done; next = l.at }) (drop l.a-index l.list)

-- ---- that it ends: a statement takes one of those that may still nest

abbrev pub decreases-moved_stmt : goal.decreases-moved_stmt
decreases-moved_stmt l = 8 * l.left + 6

abbrev pub decreases-expanded_body : goal.decreases-expanded_body
decreases-expanded_body l = 8 * l.left + 7

abbrev pub decreases-called_body : goal.decreases-called_body
decreases-called_body l = 8 * l.left + 8

abbrev pub decreases-assigned : goal.decreases-assigned
decreases-assigned l = 8 * l.left + 9

abbrev pub decreases-returned : goal.decreases-returned
decreases-returned l = 8 * l.left + 9

abbrev pub decreases-moved_body : goal.decreases-moved_body
decreases-moved_body l = 8 * l.left + 10

abbrev pub decreases-moved_arm : goal.decreases-moved_arm
decreases-moved_arm l = 8 * l.left + 11

abbrev pub decreases-moved_arms : goal.decreases-moved_arms
decreases-moved_arms l = 8 * l.left + 12

abbrev pub decreases-moved_by_parts : goal.decreases-moved_by_parts
decreases-moved_by_parts l = 8 * l.left + 13
