-- What holds of the nesting of printed queries.
use Rattle.std.specs.Prelude.{◌≡◌, ◌≤◌, ℕ, List, []}
use Rattle.away_trees.specs.declared.queries.Query.{Query}
use Rattle.away_grammar.specs.Grammar.{file}
use Rattle.away_grammar.specs.Nesting as tokens
use Rattle.away_grammar.specs.Printing.{query_terminals, query_text}
use Rattle.away_grammar.specs.Terminals.{Terminal, token_terminals}
use Rattle.away_grammar.specs.Texts.{ReadsQuery}
use Rattle.away_grammar.specs.Tokens.{Lexeme}
use Rattle.sql_printer.specs.Writable.{AllWritable}
use Rattle.sql_text.specs.Refusals.{MayBeRead, most_nesting}
use Rattle.cte_prints.specs.Derivable.{Derivable}
use Rattle.cte_prints.specs.DerivesIn.{DerivesIn}
use Rattle.cte_prints.specs.TerminalNesting.{changes, TerminalsNestWithin}

-- Tokens do to the count what the terminals that they are do.
abbrev pub TokensChangeAsTerminals : Type 0
TokensChangeAsTerminals = (ts : List Lexeme) → tokens.changes ts ≡ changes (token_terminals ts)

-- What is derived with a depth prints as terminals that nest no deeper.
abbrev pub PrintedNest : Type 0
PrintedNest = (d : ℕ) (ts : List Terminal) (q : Query) (rest : List Terminal) → DerivesIn d file ts q rest → TerminalsNestWithin d (query_terminals q)

-- The text of a query that writable terminals say, in few enough brackets, may be read, and reads
-- as the query.
abbrev pub DerivedTextsRead : Type 0
DerivedTextsRead =
    (d : ℕ) (ts : List Terminal) (q : Query) → d ≤ most_nesting → AllWritable ts → DerivesIn d file ts q []
    → MayBeRead (query_text q) × ReadsQuery (query_text q) q

-- The text of a query that can be derived in few enough brackets may be read, and reads as the
-- query.
abbrev pub DerivableTextsRead : Type 0
DerivableTextsRead = (d : ℕ) (q : Query) → d ≤ most_nesting → Derivable d file q → MayBeRead (query_text q) × ReadsQuery (query_text q) q
