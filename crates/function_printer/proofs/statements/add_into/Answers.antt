use Rattle.sql_printer.proofs.Adding.{as_terminals, then_on}
use Rattle.function_printer.proofs.AddedParts.{into_terminals}
use Rattle.function_printer.proofs.statements.add_into.Goals as goal

pub returns : goal.returns
returns c =
    as_terminals (into_terminals c.args.strict c.args.targets.now c.args.query.now)
    (then_on c.in_ok-mark.ensures (then_on c.in_ok-add_list.ensures (then_on c.in_ok-mark-2.ensures (then_on c.in_ok-mark_if.ensures (then_on c.in_ok-add_targets.ensures (then_on c.in_ok-add_clauses.ensures c.add_semicolon.ensures))))))
