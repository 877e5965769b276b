use Rattle.std.proofs.Common.{map, string_bytes, subst, sym}
use Rattle.std.proofs.lemmas.Result.{err_from_is_err_and}
use Rattle.cte_prints.specs.Texts.{IsOfTexts}
use Rattle.away_types.specs.declared.checked_function.CheckedFunction.{CheckedFunction}
use Rattle.away_top.specs.Files.{as_callable, function_course}
use Rattle.away_top.specs.Runs.{Runs}
use Rattle.away_top.specs.Steps.{run_end}
use Rattle.away_top.specs.UnrolledCourse.{with_function}
use Rattle.away_top.proofs.ReadTexts.{of_texts}
use Rattle.away_top.proofs.UnrollRuns.{stretch_goes, stretch_stops}
use Rattle.away_top.proofs.over_tables.unrolled.with_schema.Goals as goal

pub with_function-requires-clause-texts : goal.with_function-requires-clause-texts
with_function-requires-clause-texts g c =
    let s = c.args.tables.now.schema in
    subst (λ (f : CheckedFunction). IsOfTexts s f.function f.slots) (sym c.get.ensures)
    (of_texts g.F.Files c.args.files.now c.function_of.new.files c.args.func.now s (as_callable c.in_ok-function.function) c.in_ok-function.ensures)

pub returns-in_err-function : goal.returns-in_err-function
returns-in_err-function g c =
    let p = err_from_is_err_and c.from_residual.result c.from_residual.ensures.1 in
    let a = c.args in
    let s = a.tables.now.schema in
    rw (p.1, p.2) (stretch_stops g.F.Files a.files.now (λ text. with_function a.bound a.most a.dir.now (map string_bytes a.args.now) text s) (function_course s a.func.now) c.function_of.new.files c.in_err-function.field-0.0 c.in_err-function.ensures)

pub returns : goal.returns
returns g c =
    let a = c.args in
    let s = a.tables.now.schema in
    let leads : (f : CheckedFunction) → Type 0 =
    λ f. Runs g.F.Files c.function_of.new.files (λ text. with_function a.bound a.most a.dir.now (map string_bytes a.args.now) text s (as_callable f)) c.with_function.new.files (run_end c.with_function.result) in
    stretch_goes g.F.Files a.files.now (λ text. with_function a.bound a.most a.dir.now (map string_bytes a.args.now) text s) (function_course s a.func.now) (as_callable c.in_ok-function.function) c.function_of.new.files
    c.with_function.new.files (run_end c.with_function.result) c.in_ok-function.ensures (subst leads c.get.ensures c.with_function.ensures)
