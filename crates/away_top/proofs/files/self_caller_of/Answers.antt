use Rattle.std.proofs.Common.{inr, subst, sym}
use Rattle.away_top.specs.Course.{RefusedBy}
use Rattle.away_top.specs.Runs.{Holds}
use Rattle.away_top.specs.UntailCourse.{IsSelfCallerFile, RefusesSelfCaller}
use Rattle.away_top.proofs.Stretches.{judged_here}
use Rattle.away_top.proofs.files.self_caller_of.Goals as goal

pub returns : goal.returns
returns g c =
    let tables = c.args.tables.now.schema in
    let holds = subst (Holds g.F.Files c.args.files.now c.args.name.now 1048576) (sym c.deref.ensures.value) c.in_ok-bytes.ensures.bytes in
    let judged = judged_here g.F.Files c.bytes_of.new.files (RefusedBy c.args.name.now (RefusesSelfCaller tables c.deref.result.now)) (λ (f : IsSelfCallerFile tables c.deref.result.now). f.written) (λ f. f) c.self_caller_in.result c.self_caller_in.ensures in
    inr (c.bytes_of.new.files, c.bytes_of.ensures.read, inr (c.deref.result.now, holds, judged))
