use Rattle.function_places.proofs.NodeSteps.{arm_passed}
use Rattle.function_places.proofs.node_places.pass_arm.Goals as goal

pub returns-in-Ok-clause-passed : goal.returns-in-Ok-clause-passed
returns-in-Ok-clause-passed c = arm_passed _ c.in-Ok.ensures.found c.arm_counted.ensures
