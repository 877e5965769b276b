use Rattle.std.proofs.Common.{◌+◌, length, get_or, sym, ap, ◌∙◌, subst, arith}
use Rattle.cte_reads.specs.Entries.{EntriesOf}
use Rattle.cte_reads.proofs.EntriesInOrder.{ListedTo, none_listed, one_listed, all_listed}
use Rattle.cte_reads.proofs.entries.entries_of.Goals as goal

pub loop-i-init : goal.loop-i-init
loop-i-init c = subst (ListedTo c.args.table.now.list 0) (sym c.new-list.ensures) (none_listed c.args.table.now.list)

pub loop-i-preserved : goal.loop-i-preserved
loop-i-preserved c =
    let e = c.index-exprs-i.result in
    subst (ListedTo c.args.table.now.list (c.loop-i.i + 1)) (sym c.in_ok-push.ensures.ok)
    (one_listed c.args.table.now.list c.loop-i.i c.loop-i.list e c.in_ok-entry_of.field-0 (c.index-exprs-i.is ∙ ap (λ l. get_or l c.loop-i.i e) c.as_slice-exprs.ensures) c.loop-i.invariant c.in_ok-entry_of.ensures)

pub returns : goal.returns
returns c =
    let same = ap length c.as_slice-exprs.ensures in
    subst (λ l. EntriesOf c.args.table.now.list (record { list = l; null = c.in_ok-entry_of-2.field-0 })) (sym c.list-2.view_is)
    (all_listed c.args.table.now.list c.loop-i.i (record { list = c.loop-i.list; null = c.in_ok-entry_of-2.field-0 })
    (omega (arith, c.loop-i-test.false, same)) (omega (arith, c.loop-i.auto.i-end, same)) c.loop-i.invariant c.in_ok-entry_of-2.ensures)
