use Rattle.away_gen.proofs.SmallCases.{small}
use Rattle.away_gen.proofs.laws.every_case_is_small.Goals as goal

pub returns : goal.returns
returns c = small
