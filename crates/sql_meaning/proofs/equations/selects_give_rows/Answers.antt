use Rattle.std.proofs.Common.{ap}
use Rattle.away_trees.proofs.Equations as eq
use Rattle.sql_meaning.specs.Meaning.{meaning}
use Rattle.sql_meaning.proofs.Nodes as own
use Rattle.sql_meaning.proofs.equations.selects_give_rows.Goals as goal

pub returns-clause-select : goal.returns-clause-select
returns-clause-select c = λ s cx. ap (λ r. r cx) (eq.select_is meaning s)

pub returns-clause-union : goal.returns-clause-union
returns-clause-union c = own.rows_union

pub returns-clause-first : goal.returns-clause-first
returns-clause-first c = own.first_rows

pub returns-clause-second : goal.returns-clause-second
returns-clause-second c = own.second_rows

pub returns-clause-plain : goal.returns-clause-plain
returns-clause-plain c = own.rows_plain

pub returns-clause-with : goal.returns-clause-with
returns-clause-with c = own.rows_recursive
