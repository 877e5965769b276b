use Rattle.ssa_check.specs.Lockstep.{in_lockstep}
use Rattle.ssa_check.proofs.laws.naming_keeps_answers.Goals as goal

pub returns : goal.returns
returns c = λ frame z named args typed k. in_lockstep frame z named args typed k
