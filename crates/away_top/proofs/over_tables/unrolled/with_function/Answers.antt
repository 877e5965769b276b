use Rattle.std.proofs.Common.{◌≡◌, ◌∙◌, ap, Err, List, map, string_bytes, subst, sym}
use Rattle.std.specs.Prelude.{Option}
use Rattle.std.proofs.lemmas.Result.{err_from_is_err_and}
use Rattle.away_values.specs.declared.values.Value.{Value}
use Rattle.away_top.specs.Arguments.{values_for}
use Rattle.away_top.specs.Files.{as_callable}
use Rattle.away_top.specs.Runs.{Runs}
use Rattle.away_top.specs.Steps.{IsSpelled, run_end}
use Rattle.away_top.specs.UnrolledCourse.{with_function, with_values}
use Rattle.away_top.proofs.UnrollRuns.{spelled_goes, spelled_stops, wants_now}
use Rattle.away_top.proofs.over_tables.unrolled.with_function.Goals as goal

pub returns-in_err-found : goal.returns-in_err-found
returns-in_err-found g c =
    let p = err_from_is_err_and c.from_residual.result c.from_residual.ensures.1 in
    let a = c.args in
    rw (p.1, p.2) (wants_now g.F.Files a.files.now (λ text. with_function a.bound a.most a.dir.now (map string_bytes a.args.now) text a.tables.now.schema (as_callable a.function.now)))

pub returns-in_err-values : goal.returns-in_err-values
returns-in_err-values g c =
    let p = err_from_is_err_and c.from_residual-in_err-values.result c.from_residual-in_err-values.ensures.1 in
    let a = c.args in
    let f = as_callable a.function.now in
    let words = map string_bytes a.args.now in
    let halt = c.in_err-values.field-0.0 in
    let found : c.in_ok-found.found ≡ values_for f.function.params words = c.in_ok-found.ensures ∙ ap (λ params. values_for params words) c.as_slice.ensures in
    rw (p.1, p.2) (spelled_stops g.F.Files a.files.now (λ text. with_values a.bound a.most a.dir.now text a.tables.now.schema f) (values_for f.function.params words) halt
    (subst (λ (o : Option (List Value)). IsSpelled o (Err halt)) found c.in_err-values.ensures))

pub returns : goal.returns
returns g c =
    let a = c.args in
    let f = as_callable a.function.now in
    let words = map string_bytes a.args.now in
    let found : c.in_ok-found.found ≡ values_for f.function.params words = c.in_ok-found.ensures ∙ ap (λ params. values_for params words) c.as_slice.ensures in
    let leads : (values : List Value) → Type 0 =
    λ values. Runs g.F.Files a.files.now (λ text. with_values a.bound a.most a.dir.now text a.tables.now.schema f values) c.with_values.new.files (run_end c.with_values.result) in
    spelled_goes g.F.Files a.files.now (λ text. with_values a.bound a.most a.dir.now text a.tables.now.schema f) (values_for f.function.params words) c.in_ok-values.values c.with_values.new.files (run_end c.with_values.result)
    (sym found ∙ c.in_ok-values.ensures) (subst leads c.as_slice-2.ensures c.with_values.ensures)
