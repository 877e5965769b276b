use Rattle.std.proofs.Common.{subst}
use Rattle.away_values.specs.Values.{IsTextValue}
use Rattle.away_values.proofs.Typing.{IsTextValue-chars}
use Rattle.away_values.proofs.operator_laws.keeps_limit.Goals as goal

pub returns : goal.returns
returns c = subst IsTextValue c.text-text.ensures.value (IsTextValue-chars c.text-text.result.now c.text-text.utf8 c.text-text.ensures.within)
