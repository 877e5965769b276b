use Rattle.away_lex.proofs.Longest.{longest}
use Rattle.away_lex.proofs.laws.tokens_are_longest.Goals as goal

pub returns : goal.returns
returns c = λ k l z rest y other st sp e. longest k l z rest y other st sp e
