use Rattle.std.proofs.Common.{◌≡◌, ◌<◌, [], length, get_or, ◌∙◌, subst, arith}
use Rattle.block_graph.specs.Spreading.{Spread, Work}
use Rattle.block_graph.proofs.Spreading.{work_ends, work_goes_on, work_skips}
use Rattle.block_graph.proofs.liveness.spread.Goals as goal

pub loop-block-preserved-in-Continue-1 : goal.loop-block-preserved-in-Continue-1
loop-block-preserved-in-Continue-1 c =
    let g = c.args.blocks.now in
    let s = c.args.slot in
    let lists = c.args.predecessors.now in
    let b = c.in-Some.block in
    let lt : b < length g = subst (λ n. b < n) c.requires.predecessors.long c.in-Some-get.ensures.lookup.3.0 in
    let is : c.as_slice.result.now ≡ get_or lists b [] = c.as_slice.ensures ∙ c.in-Some-get.ensures.lookup.3.1 [] in
    let spread : Spread g s c.loop-block.table c.pop.new.self (get_or lists b []) c.mark_due.new.table c.mark_due.new.left = subst (λ l. Spread g s c.loop-block.table c.pop.new.self l c.mark_due.new.table c.mark_due.new.left) is c.in_ok-mark_due.ensures in
    work_goes_on g s c.loop-block.table c.pop.new.self c.loop-block.left b c.loop-block.invariant c.in-Some.ensures lists c.mark_due.new.table c.mark_due.new.left c.requires.predecessors lt spread

pub loop-block-preserved : goal.loop-block-preserved
loop-block-preserved c =
    let past = c.in_default-get.ensures.lookup.3 in
    let long = c.requires.predecessors.long in
    work_skips c.args.blocks.now c.args.slot c.loop-block.table c.pop.new.self c.loop-block.left c.in-Some.block c.loop-block.invariant c.in-Some.ensures (omega (arith, past, long))

pub returns : goal.returns
returns c = work_ends c.args.blocks.now c.args.slot c.loop-block.table (subst (Work c.args.blocks.now c.args.slot c.loop-block.table) c.in_default.ensures.0 c.loop-block.invariant)
