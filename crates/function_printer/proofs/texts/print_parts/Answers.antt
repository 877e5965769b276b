use Rattle.std.proofs.Common.{◌∷◌, ◌++◌, [], ap, sym, ◌∙◌, string_bytes}
use Rattle.function_printer.specs.FunctionTexts.{clauses_text, with_space}
use Rattle.function_printer.proofs.PartTexts.{parts_are}
use Rattle.function_printer.proofs.texts.print_parts.Goals as goal

pub returns-clause-joined : goal.returns-clause-joined
returns-clause-joined c =
    let q = c.args.select.now in
    parts_are q
    ∙ ap (λ z. with_space z (clauses_text q) ++ 10 ∷ []) (sym c.in_ok-list.ensures)
    ∙ ap (λ z. with_space (string_bytes c.in_ok-list.list) z ++ 10 ∷ []) (sym c.in_ok-clauses.ensures)
