use Rattle.away_values.proofs.Typing.{SFits-fits}
use Rattle.away_values.proofs.operator_laws.keeps_range.Goals as goal

pub returns : goal.returns
returns c = SFits-fits c.args.n c.ranges.n
