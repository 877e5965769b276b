use Rattle.std.proofs.Common.{map, string_bytes}
use Rattle.std.proofs.lemmas.Result.{err_from_is_err_and}
use Rattle.away_top.specs.Files.{schema_course}
use Rattle.away_top.specs.Steps.{run_end}
use Rattle.away_top.specs.UnrolledCourse.{with_schema}
use Rattle.away_top.proofs.UnrollRuns.{stretch_goes, stretch_stops}
use Rattle.away_top.proofs.over_tables.unrolled.with_turns.Goals as goal

pub returns-in_err-tables : goal.returns-in_err-tables
returns-in_err-tables g c =
    let p = err_from_is_err_and c.from_residual.result c.from_residual.ensures.1 in
    let a = c.args in
    rw (p.1, p.2) (stretch_stops g.F.Files a.files.now (with_schema a.bound a.most a.func.now a.dir.now (map string_bytes a.args.now)) (schema_course a.schema.now) c.schema_of.new.files c.in_err-tables.field-0.0 c.in_err-tables.ensures)

pub returns : goal.returns
returns g c =
    let a = c.args in
    stretch_goes g.F.Files a.files.now (with_schema a.bound a.most a.func.now a.dir.now (map string_bytes a.args.now)) (schema_course a.schema.now) c.in_ok-tables.tables.schema c.schema_of.new.files c.with_schema.new.files
    (run_end c.with_schema.result) c.in_ok-tables.ensures c.with_schema.ensures
