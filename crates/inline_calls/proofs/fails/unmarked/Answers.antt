use Rattle.std.proofs.Common.{◌≡◌, length, subst, arith}
use Rattle.inline_calls.specs.Marks.{AreUnmarked}
use Rattle.inline_calls.proofs.Marking.{none_yet, one_behind}
use Rattle.inline_calls.proofs.fails.unmarked.Goals as goal

pub loop-block-init : goal.loop-block-init
loop-block-init c = none_yet _ c.new-marks.ensures.items

pub loop-block-preserved : goal.loop-block-preserved
loop-block-preserved c = one_behind c.loop-block._block-index _ _ c.loop-block.invariant c.in_ok-push.ensures.items

pub returns : goal.returns
returns c =
    let under = c.loop-block.auto._block-index-end in
    let past = c.loop-block-test.false in
    let all : c.loop-block._block-index ≡ length c.args.blocks.now = omega (arith, under, past) in
    subst (λ n. AreUnmarked n c.loop-block.marks.items) all c.loop-block.invariant
