use Rattle.inline_law.proofs.TypedArguments.{arguments_typed}
use Rattle.inline_law.proofs.laws.typed_arguments_fit.Goals as goal

pub returns : goal.returns
returns c = λ s f params q typed tables args fits supplied frames kept. arguments_typed s f params q typed tables args fits supplied frames kept
