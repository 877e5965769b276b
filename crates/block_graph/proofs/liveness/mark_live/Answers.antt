use Rattle.std.proofs.Common.{[], subst}
use Rattle.block_graph.specs.Spreading.{Spread}
use Rattle.block_graph.proofs.Spreading.{work_begins}
use Rattle.block_graph.proofs.liveness.mark_live.Goals as goal

pub spread-requires-clause-begun : goal.spread-requires-clause-begun
spread-requires-clause-begun c =
    let g = c.args.blocks.now in
    let s = c.args.slot in
    let so : Spread g s c.args.table.now [] c.args.all.now c.mark_due.new.table c.mark_due.new.left = subst (λ l. Spread g s c.args.table.now l c.args.all.now c.mark_due.new.table c.mark_due.new.left) c.requires.none_left c.in_ok-mark_due.ensures in
    work_begins g s c.args.table.now c.mark_due.new.table c.args.all.now c.mark_due.new.left c.requires.unmarked c.requires.all so
