use Rattle.away_lex.proofs.ReadsBack.{two_lex}
use Rattle.away_lex.proofs.laws.spaced_tokens_lex.Goals as goal

pub returns : goal.returns
returns c = λ k l s t a b. two_lex k l s t a b
