use Rattle.std.proofs.Common.{refl}
use Rattle.away_top.proofs.explain.told.Goals as goal

pub returns : goal.returns
returns c = (c.in_ok-explanation.ensures, refl)
