use Rattle.std.proofs.Common.{rules}
use Rattle.block_forms.specs.declared.forms.Block.{Block}
use Rattle.block_forms.specs.declared.forms.SsaBlock.{SsaBlock}
use Rattle.block_forms.specs.Named.{BlockRenamed}
use Rattle.block_forms.proofs.Pairs.{pairs_more, pairs_all, pair_refutes}
use Rattle.block_forms.proofs.Verdicts.{passed}
use Rattle.ssa_check.proofs.check.blocks_renamed.Goals as goal

pub loop-b-preserved : goal.loop-b-preserved
loop-b-preserved c =
    pairs_more (λ b (x : Block) (y : SsaBlock). BlockRenamed c.args.names.now x y) c.args.xs.now c.args.ys.now c.loop-b.b c.index-xs-b.result
    c.index-ys-b.result c.index-xs-b.is c.index-ys-b.is c.loop-b.invariant
    (passed c.block_renamed.result c.if-not-block_renamed.false c.block_renamed.ensures)

pub returns-then-not-block_renamed : goal.returns-then-not-block_renamed
returns-then-not-block_renamed c =
    pair_refutes (λ b (x : Block) (y : SsaBlock). BlockRenamed c.args.names.now x y) c.args.xs.now c.args.ys.now c.loop-b.b c.index-xs-b.result
    c.index-ys-b.result c.block_renamed.result c.loop-b-test.true c.requires c.index-xs-b.is c.index-ys-b.is c.if-not-block_renamed.true
    c.block_renamed.ensures

pub returns : goal.returns
returns c = (
  λ t. pairs_all (λ b (x : Block) (y : SsaBlock). BlockRenamed c.args.names.now x y) c.args.xs.now c.args.ys.now c.loop-b.b
      c.loop-b-test.false c.loop-b.invariant,
  λ each. search rules,
)
