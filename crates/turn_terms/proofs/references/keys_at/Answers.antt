use Rattle.std.proofs.Common.{◌≡◌, ◌≤◌, ◌<◌, ◌-◌, ◌+◌, ap, ◌∙◌, length, arith}
use Rattle.turn_terms.specs.References.{value_in}
use Rattle.turn_terms.proofs.ReferenceRules.{keys_start, keys_before, keys_skip}
use Rattle.turn_terms.proofs.references.keys_at.Goals as goal

pub loop-left-init : goal.loop-left-init
loop-left-init c = (omega arith, ap value_in c.new-list.ensures ∙ keys_start c.args.keys.now c.args.values.now)

pub loop-left-preserved-in-Continue-branch-2 : goal.loop-left-preserved-in-Continue-branch-2
loop-left-preserved-in-Continue-branch-2 c =
    let i = c.loop-left.left - 1 in
    let next : c.loop-left.left ≡ i + 1 = omega (arith, c.loop-left-test.true) in
    let within : i ≤ length c.args.keys.now = omega (arith, c.loop-left-test.true, c.loop-left.invariant.0) in
    let first : i < length c.args.keys.now = omega (arith, c.loop-left-test.true, c.loop-left.invariant.0) in
    (within, keys_before c.loop-left.list c.push.new.self c.args.keys.now c.args.values.now i c.loop-left.left _ c.in_ok-value.value c.index-values-left.result c.in_ok-push.ensures.ok c.in_ok-value.ensures c.index-values-left.is next first c.if-left-values.true c.loop-left.invariant.1)

pub loop-left-preserved : goal.loop-left-preserved
loop-left-preserved c =
    let i = c.loop-left.left - 1 in
    let within : i ≤ length c.args.keys.now = omega (arith, c.loop-left-test.true, c.loop-left.invariant.0) in
    (within, c.loop-left.invariant.1 ∙ keys_skip c.args.keys.now c.args.values.now c.loop-left.left i (omega (arith, c.loop-left-test.true, c.if-left-values.false)) (omega (arith, c.if-left-values.false)))
