use Rattle.std.proofs.Common.{◌∙◌, Err, map, string_bytes, subst, sym}
use Rattle.std.proofs.lemmas.Result.{err_from_is_err_and}
use Rattle.away_top.specs.Steps.{IsSpelled, run_end}
use Rattle.away_top.specs.UnrollCourse.{turns_of}
use Rattle.away_top.specs.UnrolledCourse.{with_turns}
use Rattle.away_top.proofs.UnrollRuns.{spelled_goes, spelled_stops}
use Rattle.away_top.proofs.over_tables.unrolled.with_bound.Goals as goal

pub returns-in_err-most : goal.returns-in_err-most
returns-in_err-most g c =
    let p = err_from_is_err_and c.from_residual.result c.from_residual.ensures.1 in
    let a = c.args in
    let halt = c.in_err-most.field-0.0 in
    rw (p.1, p.2) (spelled_stops g.F.Files a.files.now (with_turns a.bound a.schema.now a.func.now a.dir.now (map string_bytes a.args.now)) (turns_of a.turns.now) halt
    (subst (λ o. IsSpelled o (Err halt)) c.turns_of.ensures.is c.in_err-most.ensures))

pub returns : goal.returns
returns g c =
    let a = c.args in
    spelled_goes g.F.Files a.files.now (with_turns a.bound a.schema.now a.func.now a.dir.now (map string_bytes a.args.now)) (turns_of a.turns.now) c.in_ok-most.most c.with_turns.new.files (run_end c.with_turns.result)
    (sym c.turns_of.ensures.is ∙ c.in_ok-most.ensures) c.with_turns.ensures
