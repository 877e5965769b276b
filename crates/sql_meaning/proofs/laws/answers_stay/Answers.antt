use Rattle.sql_meaning.proofs.Bounds.{rows_stay, answer_stays}
use Rattle.sql_meaning.proofs.laws.answers_stay.Goals as goal

pub returns-clause-rows : goal.returns-clause-rows
returns-clause-rows c = rows_stay

pub returns-clause-answer : goal.returns-clause-answer
returns-clause-answer c = answer_stays
