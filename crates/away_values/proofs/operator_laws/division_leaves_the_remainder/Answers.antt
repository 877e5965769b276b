use Rattle.away_values.proofs.DivisionLaws.{is_divided}
use Rattle.away_values.proofs.operator_laws.division_leaves_the_remainder.Goals as goal

pub returns : goal.returns
returns c = is_divided
