use Rattle.std.proofs.Common.{get_or, ap, ◌∙◌, arith}
use Rattle.cte_reads.proofs.EntriesInOrder.{entry_at}
use Rattle.cte_reads.proofs.entries.Entries.at.Goals as goal

pub returns-then-number-len : goal.returns-then-number-len
returns-then-number-len c table h =
    let y = c.index-as_slice-number.result in
    entry_at table c.args.self.now c.args.number y h (omega (arith, c.if-number-len.true, c.len.ensures))
    (c.index-as_slice-number.is ∙ ap (λ l. get_or l c.args.number y) c.as_slice.ensures)
