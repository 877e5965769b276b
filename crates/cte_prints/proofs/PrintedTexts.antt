-- The text of a query that is derived in few enough brackets may be read, and reads as the query.
use Rattle.std.proofs.Common.{◌≡◌, ◌≤◌, ℕ, List, [], None, sym, subst, arith}
use Rattle.away_trees.specs.declared.queries.Query.{Query}
use Rattle.away_grammar.specs.Grammar.{Reads, file}
use Rattle.away_grammar.specs.Printing.{query_terminals, query_text}
use Rattle.away_grammar.specs.Terminals.{Terminal, token_terminals}
use Rattle.away_grammar.specs.Texts.{IsText, ReadsQuery}
use Rattle.away_grammar.specs.Tokens.{Lexeme, Lexes}
use Rattle.away_lex.specs.Depth.{greatest}
use Rattle.sql_printer.specs.Writable.{AllWritable}
use Rattle.sql_printer.proofs.PrintClear.{Clear, nothing, behind}
use Rattle.sql_printer.proofs.PrintWritable.{prints_clear}
use Rattle.sql_printer.proofs.PrintTexts.{text_reads}
use Rattle.sql_text.specs.Refusals.{MayBeRead, HasFewTokens, most_nesting}
use Rattle.cte_prints.specs.DerivesIn.{DerivesIn}
use Rattle.cte_prints.specs.TerminalNesting.{TerminalsNestWithin}
use Rattle.cte_prints.proofs.PrintedNests.{prints_nested}
use Rattle.cte_prints.proofs.Balanced.{Nested}
use Rattle.cte_prints.proofs.ReadingDepth.{read_so}
use Rattle.cte_prints.proofs.Textual.{terminals_text_is}
use Rattle.cte_prints.proofs.WithinRoom.{terminals_within, terminals_plain, tokens_within}

all_writable : {ts : List Terminal} → Clear ts → AllWritable ts
all_writable nothing = tt
all_writable (behind h k d) = (h, all_writable d)

text_is : {d : ℕ} (ts : List Terminal) (q : Query) → AllWritable ts → Reads file ts q [] → Nested d (query_terminals q) → IsText (query_text q)
unfolding query_text
text_is ts q h reads nested = terminals_text_is (query_terminals q) (all_writable (prints_clear reads h).0) (terminals_plain (query_terminals q) nested)

few_tokens : (d : ℕ) (tokens : List Lexeme) (q : Query) → d ≤ most_nesting → IsText (query_text q) → Lexes 0 (query_text q) tokens None
    → token_terminals tokens ≡ query_terminals q → TerminalsNestWithin d (query_terminals q) → HasFewTokens (query_text q) tokens
few_tokens d tokens q few text lexes derives within =
    let nests = tokens_within d tokens (subst (TerminalsNestWithin d) (sym derives) within) in
    (greatest tokens, record { text = text; tokens_are = lexes; nesting_is = nests.0 }, omega (arith, few, nests.1))

pub derived_text_reads : (d : ℕ) (ts : List Terminal) (q : Query) → d ≤ most_nesting → AllWritable ts → DerivesIn d file ts q []
    → MayBeRead (query_text q) × ReadsQuery (query_text q) q
derived_text_reads d ts q few h derives =
    let reads : Reads file ts q [] = read_so derives in
    let nested : Nested d (query_terminals q) = prints_nested derives in
    let lexed = text_reads ts q h reads in
    ((lexed.0, few_tokens d lexed.0 q few (text_is ts q h reads nested) lexed.1 lexed.2 (terminals_within (query_terminals q) nested)), (lexed.0, lexed.1, lexed.3))
