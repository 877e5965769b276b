use Rattle.std.proofs.Common.{◌≡◌, map, drop}
use Rattle.away_grammar.specs.FunctionFile.{first_dollar}
use Rattle.away_lex.specs.Lexed.{seen}
use Rattle.away_lex.proofs.function_file.first_dollar.Given as goal

abbrev pub invariant-loop-token : goal.invariant-loop-token
invariant-loop-token l = first_dollar (map seen (drop l.token-index l.list)) ≡ first_dollar (map seen l.list)
