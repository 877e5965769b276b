use Rattle.function_printer.specs.FunctionTerminals.{whole}
use Rattle.expanded_sizes.proofs.Balanced as proved
use Rattle.expanded_sizes.proofs.laws.expressions_are_balanced.Goals as goal

pub returns : goal.returns
returns c = λ e rest free. proved.depth_joins (whole e) rest (proved.whole_balanced e) free
