use Rattle.sql_meaning.proofs.Stops.{and_is, or_is, between_is, among_is}
use Rattle.sql_meaning.proofs.laws.stopping_changes_no_value.Goals as goal

pub returns-clause-and : goal.returns-clause-and
returns-clause-and c = and_is

pub returns-clause-or : goal.returns-clause-or
returns-clause-or c = or_is

pub returns-clause-between : goal.returns-clause-between
returns-clause-between c = between_is

pub returns-clause-among : goal.returns-clause-among
returns-clause-among c = among_is
