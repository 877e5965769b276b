use Rattle.std.proofs.Common.{ap}
use Rattle.away_trees.proofs.Equations as eq
use Rattle.sql_meaning.specs.Meaning.{meaning}
use Rattle.sql_meaning.proofs.equations.subqueries_take_their_rows.Goals as goal

pub returns-clause-scalar : goal.returns-clause-scalar
returns-clause-scalar c = λ q cx. ap (λ m. m.value cx) (eq.of_scalar meaning q)

pub returns-clause-exists : goal.returns-clause-exists
returns-clause-exists c = λ q cx. ap (λ m. m.value cx) (eq.of_exists meaning q)
