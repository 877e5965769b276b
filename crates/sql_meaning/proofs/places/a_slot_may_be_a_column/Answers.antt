use Rattle.sql_meaning.proofs.Substitution.{substitution}
use Rattle.sql_meaning.proofs.places.a_slot_may_be_a_column.Goals as goal

pub returns : goal.returns
returns c = substitution
