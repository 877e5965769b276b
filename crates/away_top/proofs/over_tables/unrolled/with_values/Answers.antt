use Rattle.std.proofs.Common.{subst}
use Rattle.std.proofs.lemmas.Result.{err_from_is_err_and}
use Rattle.sql_meaning.specs.AtBound.{rows_of_tables}
use Rattle.away_top.specs.Course.{ends}
use Rattle.away_top.specs.Files.{as_callable}
use Rattle.away_top.specs.Runs.{Follows, goes_on}
use Rattle.away_top.specs.Steps.{halt_end, run_end}
use Rattle.away_top.specs.TableFiles.{tables_course}
use Rattle.away_top.specs.UnrolledCourse.{TellsUnrolled}
use Rattle.away_top.proofs.UnrollRuns.{comes_to_end, stretch_goes, stretch_stops}
use Rattle.away_top.proofs.over_tables.unrolled.with_values.Goals as goal

pub returns-in_err-rows : goal.returns-in_err-rows
returns-in_err-rows g c =
    let p = err_from_is_err_and c.from_residual.result c.from_residual.ensures.1 in
    let a = c.args in
    let s = a.tables.now.schema in
    let halt = c.in_err-rows.field-0.0 in
    rw (p.1, p.2) (stretch_stops g.F.Files a.files.now (λ text rows. ends (TellsUnrolled a.bound a.most text s (as_callable a.function.now) a.values.now rows)) (tables_course a.dir.now s.tables) c.tables_of.new.files halt
    (subst (λ ts. Follows g.F.Files a.files.now (tables_course a.dir.now ts) c.tables_of.new.files (halt_end halt)) c.as_slice.ensures c.in_err-rows.ensures))

pub returns : goal.returns
returns g c =
    let a = c.args in
    let s = a.tables.now.schema in
    let rows = rows_of_tables c.in_ok-rows.rows.list in
    let f = as_callable a.function.now in
    stretch_goes g.F.Files a.files.now (λ text rows. ends (TellsUnrolled a.bound a.most text s f a.values.now rows)) (tables_course a.dir.now s.tables) rows c.tables_of.new.files c.tables_of.new.files (run_end c.answered.result)
    (subst (λ ts. Follows g.F.Files a.files.now (tables_course a.dir.now ts) c.tables_of.new.files (goes_on rows)) c.as_slice.ensures c.in_ok-rows.ensures)
    (comes_to_end g.F.Files c.tables_of.new.files (λ text. TellsUnrolled a.bound a.most text s f a.values.now rows) (run_end c.answered.result) c.answered.ensures)
