use Rattle.std.proofs.Common.{◌≡◌, rules, arith}
use Rattle.tree_events.specs.declared.events.TreeEvent.{TreeEvent}
use Rattle.block_forms.proofs.Pairs.{pairs_more, pairs_all, pair_at}
use Rattle.block_forms.proofs.Verdicts.{passed, refuted}
use Rattle.block_forms.proofs.SameLists.{same_at_places, each_same}
use Rattle.written_queries.proofs.same.same_at_places.Goals as goal

pub loop-i-preserved : goal.loop-i-preserved
loop-i-preserved c =
    pairs_more (λ b (x : TreeEvent) (y : TreeEvent). x ≡ y) c.args.left.now c.args.right.now c.loop-i.i c.index-left-i.result c.index-right-i.result c.index-left-i.is
    c.index-right-i.is c.loop-i.invariant (passed c.same_event.result c.if-not-same_event.false c.same_event.ensures)

pub returns-then-not-same_event : goal.returns-then-not-same_event
returns-then-not-same_event c =
    refuted c.same_event.result c.if-not-same_event.true c.same_event.ensures
    (λ e. pair_at (λ b (x : TreeEvent) (y : TreeEvent). x ≡ y) c.args.left.now c.args.right.now c.loop-i.i c.index-left-i.result c.index-right-i.result c.loop-i-test.true (omega arith) c.index-left-i.is c.index-right-i.is (each_same c.args.left.now c.args.right.now e))

pub returns : goal.returns
returns c = (
  λ t. same_at_places c.args.left.now c.args.right.now c.requires (pairs_all (λ b (x : TreeEvent) (y : TreeEvent). x ≡ y) c.args.left.now c.args.right.now c.loop-i.i
      c.loop-i-test.false c.loop-i.invariant),
  λ each. search rules,
)
