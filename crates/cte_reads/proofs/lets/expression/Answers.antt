use Rattle.std.proofs.Common.{◌++◌, IsTrue, ap, ◌∙◌}
use Rattle.tree_events.specs.Placing.{placed_events}
use Rattle.cte_reads.specs.Placing.{slot_column}
use Rattle.cte_reads.proofs.OneByOne.{as_reads}
use Rattle.cte_reads.proofs.PlacedInOrder.{placed_whole}
use Rattle.cte_reads.proofs.lets.expression.Goals as goal

pub returns : goal.returns
returns c e h =
    let x = c.args.entry.now in
    as_reads
    (λ rest.
    ap (λ l. placed_events (slot_column c.args.out l c.args.refs.now) 0 c.as_slice.result.now ++ rest) c.as_slice-2.ensures
    ∙ placed_whole c.args.ty (slot_column c.args.out x.slots c.args.refs.now) e c.as_slice.result.now (c.as_slice.ensures ∙ h.events)
    (λ null. let t : IsTrue x.is_null = h.null.1 null in cc (t, c.if-entry.false)) rest)
    c.placed.ensures
