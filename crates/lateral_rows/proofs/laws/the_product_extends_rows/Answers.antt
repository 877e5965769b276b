use Rattle.lateral_rows.proofs.RowLaws.{product_extends}
use Rattle.lateral_rows.proofs.laws.the_product_extends_rows.Goals as goal

pub returns : goal.returns
returns c = λ x y z. product_extends x y z
