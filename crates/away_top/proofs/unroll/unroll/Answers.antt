use Rattle.std.proofs.Common.{◌∙◌, Err, subst, sym}
use Rattle.std.proofs.lemmas.Result.{err_from_is_err_and}
use Rattle.away_top.specs.Steps.{IsSpelled, run_end}
use Rattle.away_top.specs.UnrollCourse.{turns_of, with_turns}
use Rattle.away_top.proofs.UnrollRuns.{spelled_goes, spelled_stops}
use Rattle.away_top.proofs.unroll.unroll.Goals as goal

pub returns-in_err-most : goal.returns-in_err-most
returns-in_err-most g c =
    let p = err_from_is_err_and c.from_residual.result c.from_residual.ensures.1 in
    let halt = c.in_err-most.field-0.0 in
    rw (p.1, p.2) (spelled_stops g.F.Files c.args.files.now (λ text. with_turns c.args.schema.now c.args.func.now text) (turns_of c.args.turns.now) halt
    (subst (λ o. IsSpelled o (Err halt)) c.turns_of.ensures.is c.in_err-most.ensures))

pub returns : goal.returns
returns g c =
    spelled_goes g.F.Files c.args.files.now (λ text. with_turns c.args.schema.now c.args.func.now text) (turns_of c.args.turns.now) c.in_ok-most.most c.of_files.new.files (run_end c.of_files.result)
    (sym c.turns_of.ensures.is ∙ c.in_ok-most.ensures) c.of_files.ensures
