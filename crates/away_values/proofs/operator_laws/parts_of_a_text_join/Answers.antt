use Rattle.away_values.proofs.SubstrLaws.{parts_join}
use Rattle.away_values.proofs.operator_laws.parts_of_a_text_join.Goals as goal

pub returns : goal.returns
returns c = parts_join
