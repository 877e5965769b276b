use Rattle.goto_law.proofs.Targets.{form_entry, form_targets}
use Rattle.goto_law.proofs.lowered_forms.forms_lead_to_their_blocks.Goals as goal

pub returns-clause-entry : goal.returns-clause-entry
returns-clause-entry c = form_entry

pub returns-clause-targets : goal.returns-clause-targets
returns-clause-targets c = form_targets
