use Rattle.std.proofs.Common.{◌≡◌, drop}
use Rattle.sql_meaning.specs.Aggregates.{any_expr, any_link, any_arm}
use Rattle.sql_eval.proofs.aggregates.+aggregates.Given as goal

abbrev pub invariant-one_has_aggregate-loop-e : goal.invariant-one_has_aggregate-loop-e
invariant-one_has_aggregate-loop-e l = any_expr l.list ≡ any_expr (drop l.e-index l.list)

abbrev pub invariant-link_has_aggregate-loop-link : goal.invariant-link_has_aggregate-loop-link
invariant-link_has_aggregate-loop-link l = any_link l.links ≡ any_link (drop l.link-index l.links)

abbrev pub invariant-arm_has_aggregate-loop-arm : goal.invariant-arm_has_aggregate-loop-arm
invariant-arm_has_aggregate-loop-arm l = any_arm l.arms ≡ any_arm (drop l.arm-index l.arms)
