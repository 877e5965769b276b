use Rattle.sql_printer.proofs.Adding.{as_terminals, then_on}
use Rattle.function_printer.proofs.AddedParts.{count_terminals}
use Rattle.function_printer.proofs.parts.add_kind.Goals as goal

pub returns-in_ok-mark-in-Count-3 : goal.returns-in_ok-mark-in-Count-3
returns-in_ok-mark-in-Count-3 c =
    as_terminals (count_terminals _ c.in-Count.is)
    (then_on c.in_ok-mark-in-Count.ensures (then_on c.in_ok-name-in-Count.ensures (then_on c.in_ok-mark-in-Count-2.ensures (then_on c.in_ok-mark_if-in-Count.ensures (then_on c.in_ok-add_whole-in-Count.ensures (then_on c.in_ok-mark-in-Count-3.ensures c.add_range.ensures))))))
