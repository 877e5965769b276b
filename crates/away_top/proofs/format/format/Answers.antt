use Rattle.std.proofs.Common.{inr, subst, sym}
use Rattle.std.proofs.lemmas.Result.{err_from_is_err_and}
use Rattle.away_top.specs.Runs.{Holds}
use Rattle.away_top.specs.Steps.{run_end}
use Rattle.away_top.proofs.Formatting.{course_of_bytes, judged_so}
use Rattle.away_top.proofs.Stretches.{stops_there}
use Rattle.away_top.proofs.format.format.Goals as goal

pub returns-in_err-bytes : goal.returns-in_err-bytes
returns-in_err-bytes g c =
    let p = err_from_is_err_and c.from_residual.result c.from_residual.ensures.1 in
    rw (p.1, p.2) (stops_there g.F.Files c.args.files.now c.bytes_of.new.files c.args.func.now 1048576
    (λ bytes. course_of_bytes c.args.func.now bytes) c.in_err-bytes.field-0.0 c.bytes_of.ensures.read c.in_err-bytes.ensures.stops)

pub returns : goal.returns
returns g c =
    let holds = subst (Holds g.F.Files c.args.files.now c.args.func.now 1048576) (sym c.deref.ensures.value) c.in_ok-bytes.ensures.bytes in
    inr (
      c.bytes_of.new.files,
      c.bytes_of.ensures.read,
      inr (
        c.deref.result.now,
        holds,
        judged_so g.F.Files c.bytes_of.new.files c.args.func.now c.deref.result.now (run_end c.format_bytes.result) c.format_bytes.ensures,
      ),
    )
