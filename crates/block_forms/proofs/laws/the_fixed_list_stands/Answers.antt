use Rattle.block_forms.proofs.FixedEntries.{list_stands}
use Rattle.block_forms.proofs.laws.the_fixed_list_stands.Goals as goal

pub returns : goal.returns
returns c = list_stands
