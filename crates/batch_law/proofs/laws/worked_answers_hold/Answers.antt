use Rattle.batch_law.proofs.WorkedAnswers.{answers_are}
use Rattle.batch_law.proofs.laws.worked_answers_hold.Goals as goal

pub returns : goal.returns
returns c = answers_are
