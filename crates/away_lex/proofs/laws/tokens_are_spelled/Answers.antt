use Rattle.away_lex.proofs.Reading.{are_spelled}
use Rattle.away_lex.proofs.laws.tokens_are_spelled.Goals as goal

pub returns : goal.returns
returns c = λ z ts bad a. are_spelled a
