use Rattle.goto_law.proofs.WorkedEntries.{entries_are}
use Rattle.goto_law.proofs.lowered_forms.worked_entries_are_judged.Goals as goal

pub returns : goal.returns
returns c = entries_are
