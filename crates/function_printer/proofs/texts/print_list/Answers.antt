use Rattle.std.proofs.Common.{◌≡◌, IfOk, ap, subst, ◌∙◌, string_bytes}
use Rattle.sql_printer.proofs.Adding.{then_on}
use Rattle.function_printer.specs.FunctionTexts.{spaced_text}
use Rattle.function_printer.proofs.LineFeeds.{added_first}
use Rattle.function_printer.proofs.PartTexts.{list_text_is}
use Rattle.function_printer.proofs.texts.print_list.Goals as goal

pub returns : goal.returns
returns c =
    subst (λ z. IfOk c.spaced.result (λ text. string_bytes text ≡ z))
    (ap spaced_text (added_first c.new-terminals.ensures (then_on c.in_ok-mark.ensures c.in_ok-add_list.ensures)) ∙ list_text_is c.args.select.now)
    c.spaced.ensures
