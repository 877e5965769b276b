use Rattle.wider_recursion.proofs.Over.{over_selects}
use Rattle.wider_recursion.proofs.laws.selects_over_selects_take_their_rows.Goals as goal

pub returns : goal.returns
returns c = over_selects
