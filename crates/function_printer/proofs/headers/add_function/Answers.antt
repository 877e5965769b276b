use Rattle.sql_printer.proofs.Adding.{as_terminals, then_on}
use Rattle.function_printer.proofs.AddedParts.{own_terminals}
use Rattle.function_printer.proofs.headers.add_function.Goals as goal

pub returns : goal.returns
returns c =
    as_terminals (own_terminals c.args.function.now c.args.body.now c.as_slice.ensures c.type_name.ensures)
    (then_on c.in_ok-mark.ensures (then_on c.in_ok-known_name.ensures (then_on c.in_ok-known_name-2.ensures (then_on c.in_ok-mark-2.ensures (then_on c.in_ok-name.ensures (then_on c.in_ok-mark-3.ensures (then_on c.in_ok-add_parameters.ensures
    (then_on c.in_ok-mark-4.ensures (then_on c.in_ok-known_name-3.ensures (then_on c.in_ok-known_name-4.ensures (then_on c.in_ok-known_name-5.ensures (then_on c.in_ok-known_name-6.ensures (then_on c.in_ok-mark_if.ensures (then_on c.in_ok-mark-5.ensures
    (then_on c.in_ok-quote.ensures c.add_semicolon.ensures)))))))))))))))
