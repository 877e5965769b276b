use Rattle.away_lex.proofs.Reading.{cut, of_cut}
use Rattle.away_lex.proofs.laws.pieces_are_the_text.Goals as goal

pub returns : goal.returns
returns c = λ z ts bad. (λ a. cut a, λ a. of_cut 0 z ts bad a)
