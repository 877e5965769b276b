use Rattle.elaboration_law.proofs.Conversions.{conversions, conversion_values}
use Rattle.elaboration_law.proofs.laws.conversions_give_the_type.Goals as goal

pub returns-clause-types : goal.returns-clause-types
returns-clause-types c = conversions

pub returns-clause-values : goal.returns-clause-values
returns-clause-values c = conversion_values
