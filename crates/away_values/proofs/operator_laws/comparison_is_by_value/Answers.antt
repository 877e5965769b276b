use Rattle.away_values.proofs.Orders.{is_the_order}
use Rattle.away_values.proofs.operator_laws.comparison_is_by_value.Goals as goal

pub returns : goal.returns
returns c = is_the_order
