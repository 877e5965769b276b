use Rattle.std.proofs.Common.{rules, subst, sym}
use Rattle.std.proofs.lemmas.Result.{err_from_is_err_and}
use Rattle.away_top.specs.Course.{RefusedBy}
use Rattle.away_top.specs.Runs.{Holds}
use Rattle.away_top.specs.TableFiles.{IsTableRule}
use Rattle.away_top.proofs.TableSteps.{table_refused, table_stops}
use Rattle.away_top.proofs.over_tables.tables.table_of.Goals as goal

pub returns-in_err-bytes : goal.returns-in_err-bytes
returns-in_err-bytes g c =
    let p = err_from_is_err_and c.from_residual-in_err-bytes.result c.from_residual-in_err-bytes.ensures.1 in
    rw (p.1, p.2) (table_stops g.F.Files c.args.files.now c.bytes_of.new.files c.args.dir.now c.deref.result.now c.args.table.now c.in_err-bytes.field-0.0 (search rules) c.bytes_of.ensures.read c.in_err-bytes.ensures.stops)

pub returns : goal.returns
returns g c =
    let file = c.deref.result.now in
    let holds = subst (Holds g.F.Files c.args.files.now file 67108864) (sym c.deref-2.ensures.value) c.in_ok-bytes.ensures.bytes in
    let ending = c.in_ok-refuse-in-Err.field-0 in
    let refused = subst (λ f. RefusedBy f (IsTableRule c.in-Err.refusal) ending.status ending.output.items) (search rules) c.in_ok-refuse-in-Err.ensures in
    table_refused g.F.Files c.args.files.now c.bytes_of.new.files c.args.dir.now file c.args.table.now c.deref-2.result.now (search rules) c.bytes_of.ensures.read holds
    c.in-Err.refusal ending c.in-Err.ensures.refused refused
