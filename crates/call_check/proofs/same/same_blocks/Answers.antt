use Rattle.std.proofs.Common.{◌≡◌, rules, arith}
use Rattle.call_forms.specs.declared.forms.AnfBlock.{AnfBlock}
use Rattle.block_forms.proofs.Pairs.{pairs_more, pairs_all, pair_at}
use Rattle.block_forms.proofs.Verdicts.{passed, refuted}
use Rattle.block_forms.proofs.SameLists.{same_at_places, each_same}
use Rattle.call_check.proofs.same.same_blocks.Goals as goal

pub loop-b-preserved : goal.loop-b-preserved
loop-b-preserved c =
    pairs_more (λ b (x : AnfBlock) (y : AnfBlock). x ≡ y) c.args.xs.now c.args.ys.now c.loop-b.b c.index-xs-b.result c.index-ys-b.result c.index-xs-b.is
    c.index-ys-b.is c.loop-b.invariant (passed c.same_block.result c.if-not-same_block.false c.same_block.ensures)

pub returns-then-not-same_block : goal.returns-then-not-same_block
returns-then-not-same_block c =
    refuted c.same_block.result c.if-not-same_block.true c.same_block.ensures
    (λ e. pair_at (λ b (x : AnfBlock) (y : AnfBlock). x ≡ y) c.args.xs.now c.args.ys.now c.loop-b.b c.index-xs-b.result c.index-ys-b.result c.loop-b-test.true (omega arith) c.index-xs-b.is c.index-ys-b.is (each_same c.args.xs.now c.args.ys.now e))

pub returns : goal.returns
returns c = (
  λ t. same_at_places c.args.xs.now c.args.ys.now c.requires (pairs_all (λ b (x : AnfBlock) (y : AnfBlock). x ≡ y) c.args.xs.now c.args.ys.now c.loop-b.b
      c.loop-b-test.false c.loop-b.invariant),
  λ each. search rules,
)
