use Rattle.std.proofs.Common.{inr, subst, sym}
use Rattle.away_top.specs.Course.{RefusedBy}
use Rattle.away_top.specs.InlineCourse.{IsReadableQuery, RefusesText}
use Rattle.away_top.specs.Runs.{Holds}
use Rattle.away_top.proofs.InlineRuns.{has_text}
use Rattle.away_top.proofs.Stretches.{judged_here}
use Rattle.away_top.proofs.inline.query_read.Goals as goal

pub returns-clause-follows : goal.returns-clause-follows
returns-clause-follows g c =
    let name = c.args.name.now in
    let bytes = c.deref.result.now in
    let holds = subst (Holds g.F.Files c.args.files.now name 67108864) (sym c.deref.ensures.value) c.in_ok-bytes.ensures.bytes in
    let judged = judged_here g.F.Files c.bytes_of.new.files (RefusedBy name (RefusesText bytes)) (λ (q : IsReadableQuery bytes). q.written) (λ q. q) c.query_in_bytes.result c.query_in_bytes.ensures.judged in
    inr (c.bytes_of.new.files, c.bytes_of.ensures.read, inr (bytes, holds, judged))

pub returns-clause-text : goal.returns-clause-text
returns-clause-text g c = has_text c.deref.result.now c.query_in_bytes.result c.query_in_bytes.ensures.text
