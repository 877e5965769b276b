use Rattle.type_soundness.proofs.Queries.{typed}
use Rattle.type_soundness.proofs.answers.a_checked_query_answers_its_type.Goals as goal

pub returns : goal.returns
returns c = typed
