use Rattle.wider_recursion.proofs.Taken.{strict_taken}
use Rattle.wider_recursion.proofs.laws.strict_recursion_is_taken.Goals as goal

pub returns : goal.returns
returns c = strict_taken
