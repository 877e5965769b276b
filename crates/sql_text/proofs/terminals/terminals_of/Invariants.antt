use Rattle.std.proofs.Common.{◌≡◌, ◌++◌, All, drop, map}
use Rattle.away_grammar.specs.Terminals.{token_terminals}
use Rattle.away_lex.specs.Lexed.{seen}
use Rattle.sql_text.specs.CodeTerminals.{meaning_of, HasSpelling}
use Rattle.sql_text.proofs.terminals.terminals_of.Given as goal

abbrev pub invariant-loop-token : goal.invariant-loop-token
invariant-loop-token l = record {
  values : map meaning_of l.terminals ++ token_terminals (map seen (drop l.token-index l.tokens)) ≡ token_terminals (map seen l.tokens);
  spelled : All HasSpelling l.terminals;
}
