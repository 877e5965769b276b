use Rattle.std.proofs.Common.{take, get_or, sym, ◌∙◌, subst}
use Rattle.std.proofs.lemmas.List.{take_more}
use Rattle.block_graph.specs.Spreading.{Spread}
use Rattle.block_graph.proofs.Spreading.{spread_more, spread_same}
use Rattle.block_graph.proofs.liveness.mark_due.Goals as goal
use Rattle.block_graph.proofs.liveness.mark_due.Goals.{then-is_due+in_ok-push, else-is_due}

pub loop-block-preserved : goal.loop-block-preserved
loop-block-preserved c =
    let g = c.args.blocks.now in
    let s = c.args.slot in
    let old = c.args.table.now in
    let old_left = c.args.left.now in
    let among = c.args.among.now in
    let i = c.loop-block.block-index in
    let b = get_or among i 0 in
    let so = c.loop-block.invariant in
    subst (λ l. Spread g s old old_left l c.if-is_due.table c.if-is_due.left) (sym (take_more among i 0 c.loop-block-test.true)) (elim c.if-is_due.branch [
      | then-is_due+in_ok-push w ↦ rw (w.table-is, w.left-is, w.in_ok-push.ensures.ok) (spread_more g s old old_left (take i among) c.loop-block.table c.loop-block.left so b (sym c.is_due.ensures.by_table ∙ w.if-is_due.true))
      | else-is_due w ↦ rw (w.table-is, w.left-is) (spread_same g s old old_left (take i among) c.loop-block.table c.loop-block.left so b (sym c.is_due.ensures.by_table ∙ w.if-is_due.false))
    ])
