use Rattle.std.proofs.Common.{ℕ, ◌≡◌, List, Option, None, length, ◌++◌, map}
use Rattle.away_grammar.specs.Tokens.{Lexeme, Lexes}
use Rattle.away_grammar.specs.FunctionFile.{first_dollar}
use Rattle.away_lex.specs.Lexed.{LexesFrom, seen}
use Rattle.away_lex.proofs.function_file.part_tokens.Given as goal

abbrev pub invariant-loop-item : goal.invariant-loop-item
invariant-loop-item l = record {
  reads : (ts : List Lexeme) (bad : Option ℕ) → LexesFrom l.left ts bad → Lexes l.start l.text (map seen l.list.items ++ ts) bad;
  plain : first_dollar (map seen l.list.items) ≡ None;
}

abbrev pub decreases-loop-item : goal.decreases-loop-item
decreases-loop-item l = length l.left.rest
