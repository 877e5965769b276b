use Rattle.std.proofs.Common.{rules}
use Rattle.block_forms.specs.declared.forms.SsaBlock.{SsaBlock}
use Rattle.call_forms.specs.declared.forms.AnfBlock.{AnfBlock}
use Rattle.call_forms.specs.Called.{BlockCalled}
use Rattle.block_forms.proofs.Pairs.{pairs_more, pairs_all, pair_refutes}
use Rattle.block_forms.proofs.Verdicts.{passed}
use Rattle.call_check.proofs.check.blocks_called.Goals as goal

pub loop-b-preserved : goal.loop-b-preserved
loop-b-preserved c =
    pairs_more (λ b (y : SsaBlock) (x : AnfBlock). BlockCalled c.args.ssa.now c.args.anf.now b y x) c.args.ys.now c.args.xs.now c.loop-b.b c.index-ys-b.result
    c.index-xs-b.result c.index-ys-b.is c.index-xs-b.is c.loop-b.invariant
    (passed c.block_called.result c.if-not-block_called.false c.block_called.ensures)

pub returns-then-not-block_called : goal.returns-then-not-block_called
returns-then-not-block_called c =
    pair_refutes (λ b (y : SsaBlock) (x : AnfBlock). BlockCalled c.args.ssa.now c.args.anf.now b y x) c.args.ys.now c.args.xs.now c.loop-b.b c.index-ys-b.result
    c.index-xs-b.result c.block_called.result c.loop-b-test.true c.requires c.index-ys-b.is c.index-xs-b.is c.if-not-block_called.true
    c.block_called.ensures

pub returns : goal.returns
returns c = (
  λ t. pairs_all (λ b (y : SsaBlock) (x : AnfBlock). BlockCalled c.args.ssa.now c.args.anf.now b y x) c.args.ys.now c.args.xs.now c.loop-b.b
      c.loop-b-test.false c.loop-b.invariant,
  λ each. search rules,
)
