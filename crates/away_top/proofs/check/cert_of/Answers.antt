use Rattle.std.proofs.Common.{inr, subst, sym}
use Rattle.cert_json.specs.Forms.{Cert}
use Rattle.away_top.specs.Certificates.{IsCert, RefusesCert}
use Rattle.away_top.specs.Course.{RefusedBy}
use Rattle.away_top.specs.Runs.{Holds}
use Rattle.away_top.proofs.Stretches.{judged_here}
use Rattle.away_top.proofs.check.cert_of.Goals as goal

pub returns : goal.returns
returns g c =
    let holds = subst (Holds g.F.Files c.args.files.now c.args.name.now 67108864) (sym c.deref.ensures.value) c.in_ok-bytes.ensures.bytes in
    let judged = judged_here g.F.Files c.bytes_of.new.files (RefusedBy c.args.name.now (RefusesCert c.deref.result.now)) (λ (i : IsCert c.deref.result.now). i.cert) (λ (x : Cert). x) c.cert_in.result c.cert_in.ensures in
    inr (c.bytes_of.new.files, c.bytes_of.ensures.read, inr (c.deref.result.now, holds, judged))
