use Rattle.sql_printer.proofs.Adding.{as_terminals, then_on}
use Rattle.function_printer.proofs.AddedParts.{decl_terminals}
use Rattle.function_printer.proofs.parts.add_decl.Goals as goal

pub returns : goal.returns
returns c =
    as_terminals (decl_terminals c.args.decl.now c.type_name.ensures)
    (then_on c.in_ok-name.ensures (then_on c.in_ok-mark_if.ensures (then_on c.in_ok-known_name.ensures (then_on c.in_ok-mark_if-2.ensures (then_on c.in_ok-mark_if-3.ensures (then_on c.in_ok-add_default.ensures c.add_semicolon.ensures))))))
