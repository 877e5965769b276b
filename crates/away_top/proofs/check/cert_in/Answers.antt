use Rattle.std.proofs.Common.{refl}
use Rattle.away_top.proofs.check.cert_in.Goals as goal

pub returns-in-Ok : goal.returns-in-Ok
returns-in-Ok c = (record { cert = c.in-Ok.cert; reads_as = c.in-Ok.ensures.cert }, refl)
