use Rattle.std.proofs.Common.{ap, true, false}
use Rattle.away_trees.proofs.Equations as eq
use Rattle.sql_meaning.specs.Meaning.{meaning}
use Rattle.sql_meaning.proofs.equations.items_give_rows.Goals as goal

pub returns-clause-lateral : goal.returns-clause-lateral
returns-clause-lateral c = λ q columns cx frame. ap (λ s. s columns cx frame) (eq.of_sub meaning q true)

pub returns-clause-plain : goal.returns-clause-plain
returns-clause-plain c = λ q columns cx frame. ap (λ s. s columns cx frame) (eq.of_sub meaning q false)
