use Rattle.std.proofs.Common.{inr, subst, sym}
use Rattle.away_top.specs.Course.{RefusedBy}
use Rattle.away_top.specs.Refusals.{IsRowQuery, RefusesRowQuery}
use Rattle.away_top.specs.Runs.{Holds}
use Rattle.away_top.specs.Files.{as_row_query, row_query_of}
use Rattle.away_top.proofs.Stretches.{judged_here}
use Rattle.away_top.proofs.files.row_query_of.Goals as goal

pub returns : goal.returns
returns g c =
    let tables = c.args.tables.now.schema in
    let holds = subst (Holds g.F.Files c.args.files.now c.args.name.now 67108864) (sym c.deref.ensures.value) c.in_ok-bytes.ensures.bytes in
    let judged = judged_here g.F.Files c.bytes_of.new.files (RefusedBy c.args.name.now (RefusesRowQuery tables c.deref.result.now)) (λ (q : IsRowQuery tables c.deref.result.now). row_query_of tables q.written) as_row_query c.row_query_in.result c.row_query_in.ensures in
    inr (c.bytes_of.new.files, c.bytes_of.ensures.read, inr (c.deref.result.now, holds, judged))
