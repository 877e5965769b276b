use Rattle.away_values.proofs.Orders.{is_ordered}
use Rattle.away_values.proofs.operator_laws.comparison_is_a_total_order.Goals as goal

pub returns : goal.returns
returns c = is_ordered
