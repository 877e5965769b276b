use Rattle.std.proofs.Common.{rules, ◌≡◌, ◌≤◌, ◌<◌, ◌-◌, ◌+◌, ◌∷◌, [], ap, sym, ◌∙◌, drop, length, arith}
use Rattle.std.proofs.lemmas.Grind.{common_steps}
use Rattle.cte_template.specs.Places.{place_of, at_keys}
use Rattle.cte_template.proofs.PlaceRules.{keys_start, keys_before, keys_skip}
use Rattle.cte_template.proofs.places.keys_at.Goals as goal

pub loop-left-init : goal.loop-left-init
loop-left-init c = (omega arith, ap place_of c.new-pairs.ensures ∙ keys_start c.args.keys.now c.args.places.now)

pub loop-left-preserved-in-Continue-1 : goal.loop-left-preserved-in-Continue-1
loop-left-preserved-in-Continue-1 c =
    let i = c.loop-left.left - 1 in
    let next : c.loop-left.left ≡ i + 1 = omega (arith, c.loop-left-test.true) in
    let within : i ≤ length c.args.keys.now = omega (arith, c.loop-left-test.true, c.loop-left.invariant.0) in
    let first : i < length c.args.keys.now = omega (arith, c.loop-left-test.true, c.loop-left.invariant.0) in
    (within, keys_before c.loop-left.pairs c.push.new.self c.args.keys.now c.args.places.now i c.loop-left.left _ _ c.in_ok-push.ensures.ok next first c.if-left-places.true c.loop-left.invariant.1)

pub loop-left-preserved : goal.loop-left-preserved
loop-left-preserved c =
    let i = c.loop-left.left - 1 in
    let within : i ≤ length c.args.keys.now = omega (arith, c.loop-left-test.true, c.loop-left.invariant.0) in
    (within, c.loop-left.invariant.1 ∙ keys_skip c.args.keys.now c.args.places.now c.loop-left.left i (omega (arith, c.loop-left-test.true, c.if-left-places.false)) (omega (arith, c.if-left-places.false)))
