use Rattle.std.proofs.Common.{ap}
use Rattle.sql_meaning.proofs.Nameless.{same_rows, same_sql, same_value}
use Rattle.sql_meaning.proofs.places.names_mean_nothing.Goals as goal

pub returns-clause-rows : goal.returns-clause-rows
returns-clause-rows c = λ q r T args k same. same_rows q r same T args k

pub returns-clause-answer : goal.returns-clause-answer
returns-clause-answer c = λ q r T args k same. same_sql q r same T args k

pub returns-clause-value : goal.returns-clause-value
returns-clause-value c = λ e cx. ap (λ m. m.value cx) (same_value e)
