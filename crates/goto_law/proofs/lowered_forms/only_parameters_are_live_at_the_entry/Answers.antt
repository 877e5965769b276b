use Rattle.goto_law.proofs.Entry.{only_parameters_are_live}
use Rattle.goto_law.proofs.lowered_forms.only_parameters_are_live_at_the_entry.Goals as goal

pub returns : goal.returns
returns c g low = only_parameters_are_live c.args.f.now.function c.args.f.now.slots c.slots_are_in_sight.ensures g low
