use Rattle.std.proofs.Common.{◌≡◌, IfOk, ap, subst, ◌∙◌, string_bytes}
use Rattle.away_grammar.specs.Printing.{terminals_text}
use Rattle.function_printer.proofs.LineFeeds.{added_first}
use Rattle.function_printer.proofs.texts.around.Goals as goal

pub returns : goal.returns
returns c =
    subst (λ z. IfOk c.laid_out.result (λ text. string_bytes text ≡ z))
    (ap terminals_text (c.as_slice.ensures ∙ added_first c.new-terminals.ensures c.in_ok-add_function.ensures)) c.laid_out.ensures
