use Rattle.block_forms.proofs.WorkedForms.{forms_stand, table_is, runs_are}
use Rattle.block_forms.proofs.laws.worked_forms_are_lowered.Goals as goal

pub returns : goal.returns
returns c = record { forms = forms_stand; table = table_is; runs = runs_are }
