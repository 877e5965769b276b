use Rattle.call_forms.proofs.IdleExample.{uses_are}
use Rattle.call_forms.proofs.laws.unneeded_parameters_are_told.Goals as goal

pub returns : goal.returns
returns c = uses_are
