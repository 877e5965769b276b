use Rattle.batch_law.proofs.Whole.{answers_of_calls}
use Rattle.batch_law.proofs.laws.each_answer_is_there.Goals as goal

pub returns : goal.returns
returns c = λ s written f slots g z a r one checked lowered named called templated tables many small starts k.
    answers_of_calls s written f slots g z a r one checked templated tables many small starts k
