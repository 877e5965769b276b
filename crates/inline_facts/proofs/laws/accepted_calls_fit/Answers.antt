use Rattle.inline_facts.proofs.laws.accepted_calls_fit.Goals as goal
use Rattle.inline_facts.proofs.Whole.{calls_fit}

pub returns : goal.returns
returns c = λ s f goto bytes q c small reads are. calls_fit s f goto bytes q c small reads are
