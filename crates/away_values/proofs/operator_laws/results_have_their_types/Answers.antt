use Rattle.away_values.proofs.Typing.{are_typed}
use Rattle.away_values.proofs.operator_laws.results_have_their_types.Goals as goal

pub returns : goal.returns
returns c = are_typed
