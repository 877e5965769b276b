use Rattle.std.proofs.Common.{rules}
use Rattle.block_forms.specs.declared.forms.Block.{Block}
use Rattle.block_forms.specs.declared.forms.SsaBlock.{SsaBlock}
use Rattle.block_forms.specs.Named.{EdgesFed}
use Rattle.block_forms.proofs.Pairs.{pairs_more, pairs_all, pair_refutes}
use Rattle.block_forms.proofs.Verdicts.{passed}
use Rattle.ssa_check.proofs.check.all_edges_fed.Goals as goal

pub loop-b-preserved : goal.loop-b-preserved
loop-b-preserved c =
    pairs_more (λ b (x : Block) (y : SsaBlock). EdgesFed c.args.ys.now b x y) c.args.xs.now c.args.ys.now c.loop-b.b c.index-xs-b.result
    c.index-ys-b.result c.index-xs-b.is c.index-ys-b.is c.loop-b.invariant
    (passed c.edges_fed.result c.if-not-edges_fed.false c.edges_fed.ensures)

pub returns-then-not-edges_fed : goal.returns-then-not-edges_fed
returns-then-not-edges_fed c =
    pair_refutes (λ b (x : Block) (y : SsaBlock). EdgesFed c.args.ys.now b x y) c.args.xs.now c.args.ys.now c.loop-b.b c.index-xs-b.result
    c.index-ys-b.result c.edges_fed.result c.loop-b-test.true c.requires c.index-xs-b.is c.index-ys-b.is c.if-not-edges_fed.true
    c.edges_fed.ensures

pub returns : goal.returns
returns c = (
  λ t. pairs_all (λ b (x : Block) (y : SsaBlock). EdgesFed c.args.ys.now b x y) c.args.xs.now c.args.ys.now c.loop-b.b
      c.loop-b-test.false c.loop-b.invariant,
  λ each. search rules,
)
