use Rattle.std.proofs.Common.{◌≡◌, ℕ, IfOk, List, ap, subst, sym, ◌∙◌, string_bytes}
use Rattle.std.specs.Prelude.{IsUtf8}
use Rattle.std.proofs.lemmas.Result.{IfOk-weaker}
use Rattle.away_grammar.specs.FunctionGrammar.{ReadsFunction}
use Rattle.away_grammar.specs.Printing.{terminals_text}
use Rattle.function_printer.specs.FunctionTerminals.{function_terminals}
use Rattle.function_printer.specs.FunctionTexts.{function_text}
use Rattle.function_printer.proofs.FileReads.{printed_is}
use Rattle.function_printer.proofs.texts.print_function.Goals as goal
use Rattle.function_printer.proofs.texts.print_function.Goals.{After-around}

written : (c : After-around) → IfOk c.around.result (λ text. string_bytes text ≡ function_text c.args.function.now)
written c =
    let f = c.args.function.now in
    subst (λ z. IfOk c.around.result (λ text. string_bytes text ≡ z))
    (ap (λ quote. terminals_text (function_terminals f quote)) (c.as_str.ensures.value ∙ c.in_ok-quote.ensures.quote) ∙ sym (printed_is f)) c.around.ensures

pub returns-clause-text : goal.returns-clause-text
returns-clause-text c = written (goal.at.returns-clause-text c).After-around

pub returns-clause-reads : goal.returns-clause-reads
returns-clause-reads c =
    let f = c.args.function.now in
    let fits = c.in_ok-quote.ensures.fits in
    IfOk-weaker c.around.result (λ text. string_bytes text ≡ function_text f)
    (λ text. (z : List ℕ) → IsUtf8 z → ReadsFunction z f → ReadsFunction (string_bytes text) f)
    (λ text is z utf8 reads. subst (λ y. ReadsFunction y f) (sym is) (c.functions_that_were_read_print_back.ensures z f utf8 fits reads))
    (written (goal.at.returns-clause-reads c).After-around)
