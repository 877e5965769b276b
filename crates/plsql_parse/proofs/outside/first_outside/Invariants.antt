use Rattle.std.proofs.Common.{◌≡◌, map, length}
use Rattle.away_grammar.specs.OutsideWords.{first_outside}
use Rattle.away_grammar.specs.Tokens.{AreSpelled}
use Rattle.away_lex.specs.Lexed.{seen}
use Rattle.plsql_parse.proofs.outside.first_outside.Given as goal

abbrev pub invariant-loop-left : goal.invariant-loop-left
invariant-loop-left l = record {
  same : first_outside (map seen l.left) ≡ first_outside (map seen l.list);
  spelled : AreSpelled (map seen l.left);
}

abbrev pub decreases-loop-left : goal.decreases-loop-left
decreases-loop-left l = length l.left
