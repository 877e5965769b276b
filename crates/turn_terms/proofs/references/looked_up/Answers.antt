use Rattle.std.proofs.Common.{◌≡◌, ◌≤◌, ◌<◌, ◌-◌, ◌+◌, ◌∙◌, length, get_or, arith}
use Rattle.turn_terms.specs.References.{value_in}
use Rattle.turn_terms.proofs.ReferenceRules.{found_at, passed_at, none_left}
use Rattle.turn_terms.proofs.Results.{ok_by}
use Rattle.turn_terms.proofs.references.looked_up.Goals as goal

pub returns-then-refs-left : goal.returns-then-refs-left
returns-then-refs-left c =
    let i = c.loop-left.left - 1 in
    let next : c.loop-left.left ≡ i + 1 = omega (arith, c.loop-left-test.true) in
    let there : i < length c.args.refs.now = omega (arith, c.loop-left-test.true, c.loop-left.invariant.0) in
    ok_by c.copy.result (λ x. x ≡ (get_or c.args.refs.now i c.index-refs-left-then-refs-left.result).value) (λ x. x ≡ value_in c.args.refs.now c.args.name)
    (λ x h. h ∙ found_at c.args.refs.now i c.loop-left.left c.index-refs-left.result c.index-refs-left-then-refs-left.result c.args.name next there c.index-refs-left.is c.if-refs-left.true c.loop-left.invariant.1)
    c.copy.ensures

pub loop-left-preserved : goal.loop-left-preserved
loop-left-preserved c =
    let i = c.loop-left.left - 1 in
    let next : c.loop-left.left ≡ i + 1 = omega (arith, c.loop-left-test.true) in
    let there : i < length c.args.refs.now = omega (arith, c.loop-left-test.true, c.loop-left.invariant.0) in
    let within : i ≤ length c.args.refs.now = omega (arith, there) in
    (within, passed_at c.args.refs.now i c.loop-left.left c.index-refs-left.result c.args.name next there c.index-refs-left.is c.if-refs-left.false c.loop-left.invariant.1)

pub returns : goal.returns
returns c =
    let end : c.loop-left.left ≡ 0 = omega (arith, c.loop-left-test.false) in
    none_left c.args.refs.now c.loop-left.left c.args.name end c.loop-left.invariant.1
