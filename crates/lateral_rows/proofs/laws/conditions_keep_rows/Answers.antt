use Rattle.lateral_rows.proofs.RowLaws.{keep_is}
use Rattle.lateral_rows.proofs.laws.conditions_keep_rows.Goals as goal

pub returns : goal.returns
returns c = λ x y. keep_is x y
