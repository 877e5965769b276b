use Rattle.std.proofs.Common.{subst, sym}
use Rattle.std.proofs.lemmas.Result.{err_from_is_err_and}
use Rattle.away_top.specs.Runs.{Holds}
use Rattle.away_top.specs.Steps.{run_end}
use Rattle.away_top.proofs.Explaining.{comes_to_bytes, file_stops, tables_stop}
use Rattle.away_top.proofs.explain.explain.Goals as goal

pub returns-in_err-tables : goal.returns-in_err-tables
returns-in_err-tables g c =
    let p = err_from_is_err_and c.from_residual.result c.from_residual.ensures.1 in
    rw (p.1, p.2) (tables_stop g.F.Files c.args.schema.now c.args.func.now c.args.files.now c.schema_of.new.files c.in_err-tables.field-0.0 c.in_err-tables.ensures)

pub returns-in_err-bytes : goal.returns-in_err-bytes
returns-in_err-bytes g c =
    let p = err_from_is_err_and c.from_residual-in_err-bytes.result c.from_residual-in_err-bytes.ensures.1 in
    rw (p.1, p.2) (file_stops g.F.Files c.args.schema.now c.args.func.now c.args.files.now c.schema_of.new.files c.bytes_of.new.files c.in_ok-tables.tables.schema c.in_ok-tables.ensures c.bytes_of.ensures.read c.in_err-bytes.field-0.0 c.in_err-bytes.ensures.stops)

pub returns : goal.returns
returns g c =
    let holds = subst (Holds g.F.Files c.schema_of.new.files c.args.func.now 67108864) (sym c.deref.ensures.value) c.in_ok-bytes.ensures.bytes in
    comes_to_bytes g.F.Files c.args.schema.now c.args.func.now c.args.files.now c.schema_of.new.files c.bytes_of.new.files c.in_ok-tables.tables.schema c.in_ok-tables.ensures c.bytes_of.ensures.read c.deref.result.now
    (run_end c.explained.result) holds c.explained.ensures
