use Rattle.std.proofs.Common.{◌≡◌, ◌++◌, List, [], None, IfOk, ℕ, ap, sym, subst, refl, ◌∙◌, map, string_bytes}
use Rattle.std.proofs.lemmas.Result.{IfOk-weaker}
use Rattle.away_trees.specs.declared.queries.Query.{Query}
use Rattle.away_grammar.specs.Terminals.{Terminal, token_terminals}
use Rattle.away_grammar.specs.Tokens.{Lexeme, Lexes}
use Rattle.away_grammar.specs.Texts.{ReadsQuery}
use Rattle.away_grammar.specs.Grammar.{Reads, file}
use Rattle.away_grammar.specs.Printing.{query_terminals, query_text, terminals_text}
use Rattle.sql_printer.specs.PrintedTerminals.{terminal_of}
use Rattle.sql_printer.specs.Writable.{AllWritable}
use Rattle.sql_printer.proofs.PrintTexts.{text_reads}
use Rattle.sql_printer.proofs.printing.print_query.Goals as goal
use Rattle.sql_printer.proofs.printing.print_query.Goals.{After-laid_out}

text_is : (q : Query) → terminals_text (query_terminals q) ≡ query_text q
unfolding query_text
text_is q = refl

reads_again : {z : List ℕ} {q : Query} → z ≡ query_text q → (tokens : List Lexeme) × Lexes 0 (query_text q) tokens None × (token_terminals tokens ≡ query_terminals q) × Reads file (token_terminals tokens) q [] → ReadsQuery z q
reads_again is found = (found.0, subst (λ z. Lexes 0 z found.0 None) (sym is) found.1, found.3)

written : (c : After-laid_out) → IfOk c.laid_out.result (λ text. string_bytes text ≡ query_text c.args.query.now)
written c =
    let q = c.args.query.now in
    let terminals : map terminal_of c.as_slice.result.now ≡ query_terminals q = c.as_slice.ensures ∙ c.in_ok-add_query.ensures.all ∙ ap (λ b. b ++ query_terminals q) c.new-terminals.ensures in
    subst (λ z. IfOk c.laid_out.result (λ text. string_bytes text ≡ z)) (ap terminals_text terminals ∙ text_is q) c.laid_out.ensures

pub returns-clause-text : goal.returns-clause-text
returns-clause-text c = written (goal.at.returns-clause-text c).After-laid_out

pub returns-clause-reads : goal.returns-clause-reads
returns-clause-reads c =
    let q = c.args.query.now in
    IfOk-weaker c.laid_out.result (λ text. string_bytes text ≡ query_text q) (λ text. (ts : List Terminal) → AllWritable ts → Reads file ts q [] → ReadsQuery (string_bytes text) q)
    (λ text is ts writable reads. reads_again is (text_reads ts q writable reads))
    (written (goal.at.returns-clause-reads c).After-laid_out)
