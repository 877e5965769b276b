use Rattle.call_answers.proofs.AnsweringRules.{expansions_answer}
use Rattle.call_answers.proofs.laws.expansions_answer_as_programs.Goals as goal

pub returns : goal.returns
returns c = expansions_answer
