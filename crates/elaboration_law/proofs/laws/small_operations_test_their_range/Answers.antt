use Rattle.elaboration_law.proofs.SmallRange.{small_values}
use Rattle.elaboration_law.proofs.laws.small_operations_test_their_range.Goals as goal

pub returns : goal.returns
returns c = small_values
