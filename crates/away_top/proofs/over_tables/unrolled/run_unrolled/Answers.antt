use Rattle.std.proofs.Common.{◌∙◌, Err, map, string_bytes, subst, sym}
use Rattle.std.proofs.lemmas.Result.{err_from_is_err_and}
use Rattle.away_top.specs.Arguments.{bound_of}
use Rattle.away_top.specs.Steps.{IsSpelled, run_end}
use Rattle.away_top.specs.UnrolledCourse.{with_bound}
use Rattle.away_top.proofs.UnrollRuns.{spelled_goes, spelled_stops}
use Rattle.away_top.proofs.over_tables.unrolled.run_unrolled.Goals as goal

pub returns-in_err-bound : goal.returns-in_err-bound
returns-in_err-bound g c =
    let p = err_from_is_err_and c.from_residual.result c.from_residual.ensures.1 in
    let a = c.args in
    let halt = c.in_err-bound.field-0.0 in
    rw (p.1, p.2) (spelled_stops g.F.Files a.files.now (with_bound a.turns.now a.schema.now a.func.now a.dir.now (map string_bytes a.args.now)) (bound_of a.bound.now) halt
    (subst (λ o. IsSpelled o (Err halt)) c.bound_of.ensures c.in_err-bound.ensures))

pub returns : goal.returns
returns g c =
    let a = c.args in
    spelled_goes g.F.Files a.files.now (with_bound a.turns.now a.schema.now a.func.now a.dir.now (map string_bytes a.args.now)) (bound_of a.bound.now) c.in_ok-bound.bound c.with_bound.new.files (run_end c.with_bound.result)
    (sym c.bound_of.ensures ∙ c.in_ok-bound.ensures) c.with_bound.ensures
