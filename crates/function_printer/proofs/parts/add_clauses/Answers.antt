use Rattle.sql_printer.proofs.Adding.{as_terminals, then_on}
use Rattle.function_printer.proofs.AddedParts.{clauses_terminals}
use Rattle.function_printer.proofs.parts.add_clauses.Goals as goal

pub returns : goal.returns
returns c =
    as_terminals (clauses_terminals c.args.select.now c.as_slice.ensures c.as_slice-2.ensures)
    (then_on c.in_ok-add_from.ensures (then_on c.in_ok-add_where.ensures (then_on c.in_ok-add_order.ensures c.add_limit.ensures)))
