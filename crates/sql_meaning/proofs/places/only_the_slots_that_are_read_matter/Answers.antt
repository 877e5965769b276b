use Rattle.sql_meaning.proofs.Substitution.{only_slots_matter}
use Rattle.sql_meaning.proofs.places.only_the_slots_that_are_read_matter.Goals as goal

pub returns : goal.returns
returns c = only_slots_matter
