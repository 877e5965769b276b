use Rattle.lateral_rows.proofs.RowLaws.{column_place}
use Rattle.lateral_rows.proofs.laws.columns_keep_their_places.Goals as goal

pub returns : goal.returns
returns c = λ x y z h. column_place x y z h
