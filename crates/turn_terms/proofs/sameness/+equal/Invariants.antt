use Rattle.std.proofs.Common.{◌≡◌, map, drop}
use Rattle.away_trees.specs.Algebra.{expr_of}
use Rattle.turn_terms.specs.Sameness.{arm_passes, each_passes, link_passes, testing}
use Rattle.turn_terms.proofs.sameness.+equal.Given as goal

abbrev pub invariant-same_arms-loop-i : goal.invariant-same_arms-loop-i
invariant-same_arms-loop-i l =
    each_passes arm_passes (map (λ x. (expr_of testing x.0, expr_of testing x.1)) (drop l.i l.a)) (drop l.i l.b)
    ≡ each_passes arm_passes (map (λ x. (expr_of testing x.0, expr_of testing x.1)) l.a) l.b

abbrev pub invariant-same_links-loop-i : goal.invariant-same_links-loop-i
invariant-same_links-loop-i l =
    each_passes link_passes (map (λ l. (l.0, expr_of testing l.1)) (drop l.i l.a)) (drop l.i l.b)
    ≡ each_passes link_passes (map (λ l. (l.0, expr_of testing l.1)) l.a) l.b
