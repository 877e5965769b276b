use Rattle.ssa_build.proofs.FewNames.{names_few}
use Rattle.ssa_build.proofs.laws.names_are_few.Goals as goal

pub returns : goal.returns
returns c = names_few
