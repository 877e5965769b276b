use Rattle.call_answers.proofs.AnsweringRules.{untailings_answer}
use Rattle.call_answers.proofs.laws.untailings_answer_as_self_callers.Goals as goal

pub returns : goal.returns
returns c = untailings_answer
