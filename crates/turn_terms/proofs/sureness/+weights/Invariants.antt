use Rattle.std.proofs.Common.{◌≡◌, ℕ, ◌-◌}
use Rattle.turn_terms.specs.Choosing.{size}
use Rattle.turn_terms.proofs.SureLists.{sum_from}
use Rattle.turn_terms.proofs.SureRules.{arm_weight, arms_size, exprs_size, link_weight, links_size, sized_arm, sized_link}
use Rattle.turn_terms.proofs.sureness.+weights.Given as goal

abbrev pub invariant-links_room-loop-i : goal.invariant-links_room-loop-i
invariant-links_room-loop-i l = l.left - sum_from link_weight sized_link l.links l.i ≡ l.room - links_size l.links

abbrev pub invariant-list_room-loop-i : goal.invariant-list_room-loop-i
invariant-list_room-loop-i l = l.left - sum_from (λ (n : ℕ). n) (λ x. size x) l.list l.i ≡ l.room - exprs_size l.list

abbrev pub invariant-arms_room-loop-i : goal.invariant-arms_room-loop-i
invariant-arms_room-loop-i l = l.left - sum_from arm_weight sized_arm l.arms l.i ≡ l.room - arms_size l.arms
