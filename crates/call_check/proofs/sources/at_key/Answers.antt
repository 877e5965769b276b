use Rattle.std.proofs.Common.{◌∙◌, sym}
use Rattle.block_forms.proofs.Keys.{at_key_here, at_key_after}
use Rattle.call_check.proofs.sources.at_key.Goals as goal

pub loop-pair-preserved : goal.loop-pair-preserved
loop-pair-preserved c =
    c.loop-pair.invariant ∙ at_key_after c.args.pairs.now c.loop-pair.pair-index c.args.key c.loop-pair-test.true c.if-pair-key.false

pub returns-then-pair-key : goal.returns-then-pair-key
returns-then-pair-key c =
    sym (c.loop-pair.invariant ∙ at_key_here c.args.pairs.now c.loop-pair.pair-index c.args.key c.loop-pair-test.true c.if-pair-key.true)
