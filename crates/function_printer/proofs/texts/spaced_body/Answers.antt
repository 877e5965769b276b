use Rattle.std.proofs.Common.{◌≡◌, IfOk, ap, subst, string_bytes}
use Rattle.function_printer.specs.FunctionTexts.{spaced_text}
use Rattle.function_printer.proofs.LineFeeds.{added_first}
use Rattle.function_printer.proofs.texts.spaced_body.Goals as goal

pub returns : goal.returns
returns c =
    subst (λ z. IfOk c.spaced.result (λ text. string_bytes text ≡ z))
    (ap spaced_text (added_first c.new-terminals.ensures c.in_ok-add_statement.ensures)) c.spaced.ensures
