use Rattle.std.proofs.Common.{◌≡◌, IfOk, List, ap, subst, sym, ◌∙◌, string_bytes}
use Rattle.std.proofs.lemmas.Result.{IfOk-weaker}
use Rattle.away_grammar.specs.declared.grammar.Level.{Level}
use Rattle.away_grammar.specs.Grammar.{Reads, at}
use Rattle.away_grammar.specs.Terminals.{Terminal}
use Rattle.sql_printer.specs.Writable.{AllWritable}
use Rattle.function_printer.specs.FunctionTexts.{ReadsExpression, expression_text, spaced_text}
use Rattle.function_printer.proofs.ExpressionTexts.{expression_reads, text_is}
use Rattle.function_printer.proofs.LineFeeds.{added_first}
use Rattle.function_printer.proofs.texts.print_expr.Goals as goal
use Rattle.function_printer.proofs.texts.print_expr.Goals.{After-spaced}

written : (c : After-spaced) → IfOk c.spaced.result (λ text. string_bytes text ≡ expression_text c.args.expr.now c.args.closed)
written c =
    subst (λ z. IfOk c.spaced.result (λ text. string_bytes text ≡ z))
    (ap spaced_text (added_first c.new-terminals.ensures c.in_ok-add_expression.ensures) ∙ sym (text_is c.args.expr.now c.args.closed)) c.spaced.ensures

pub returns-clause-text : goal.returns-clause-text
returns-clause-text c = written (goal.at.returns-clause-text c).After-spaced

pub returns-clause-reads : goal.returns-clause-reads
returns-clause-reads c =
    let x = c.args.expr.now in
    IfOk-weaker c.spaced.result (λ text. string_bytes text ≡ expression_text x c.args.closed)
    (λ text. (level : Level) (ts rest : List Terminal) → AllWritable ts → Reads (at level) ts x rest → ReadsExpression (string_bytes text) x)
    (λ text is level ts rest writable reads. subst (λ z. ReadsExpression z x) (sym is) (expression_reads c.args.closed reads writable))
    (written (goal.at.returns-clause-reads c).After-spaced)
