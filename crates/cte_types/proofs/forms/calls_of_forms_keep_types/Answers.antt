use Rattle.cte_types.proofs.CallTypes.{calls_keep}
use Rattle.cte_types.proofs.forms.calls_of_forms_keep_types.Goals as goal

pub returns : goal.returns
returns c = λ slots g z a count params named called. calls_keep slots g z a count params named called
