use Rattle.std.proofs.Common.{inr, subst, sym}
use Rattle.plsql_parse.specs.Refusals as functions
use Rattle.away_top.specs.Course.{RefusedBy}
use Rattle.away_top.specs.FormatCourse.{IsReadable}
use Rattle.away_top.specs.Refusals.{RefusesRead}
use Rattle.away_top.specs.Runs.{Holds}
use Rattle.away_top.proofs.Stretches.{judged_here}
use Rattle.away_top.proofs.expand.function_read.Goals as goal

-- As self_caller_of, which has one clause. The limits are those of function_in_bytes.
pub returns-clause-follows : goal.returns-clause-follows
returns-clause-follows g c =
    let name = c.args.name.now in
    let bytes = c.deref.result.now in
    let holds = subst (Holds g.F.Files c.args.files.now name 1048576) (sym c.deref.ensures.value) c.in_ok-bytes.ensures.bytes in
    let judged = judged_here g.F.Files c.bytes_of.new.files (RefusedBy name (RefusesRead (functions.Refuses bytes))) (λ (f : IsReadable bytes). f.written) (λ f. f) c.function_in_bytes.result c.function_in_bytes.ensures.judged in
    inr (c.bytes_of.new.files, c.bytes_of.ensures.read, inr (bytes, holds, judged))
