use Rattle.std.proofs.Common.{map, string_bytes, subst}
use Rattle.std.proofs.lemmas.Result.{err_from_is_err_and}
use Rattle.away_top.specs.ExpandCourse.{EndsOnProgram}
use Rattle.away_top.specs.Runs.{IsEnd}
use Rattle.away_top.specs.Steps.{run_end}
use Rattle.away_top.proofs.ExpandRuns.{at_functions, at_program, at_schema, no_form_so}
use Rattle.away_top.proofs.FileNames.{as_many_named, fewer_named}
use Rattle.away_top.proofs.expand.expand.Goals as goal

pub returns-then-others-ge-TOO_MANY : goal.returns-then-others-ge-TOO_MANY
returns-then-others-ge-TOO_MANY g c = no_form_so g.F.Files c.args.files.now c.args.schema.now c.args.main.now (map string_bytes c.args.others.now) c.in_ok-usage.field-0 (as_many_named string_bytes c.args.others.now 4294967295 c.if-others-ge-TOO_MANY.true) c.in_ok-usage.ensures

pub returns-in_err-tables : goal.returns-in_err-tables
returns-in_err-tables g c =
    let p = err_from_is_err_and c.from_residual-in_err-tables.result c.from_residual-in_err-tables.ensures.1 in
    rw (p.1, p.2) (at_schema g.F.Files c.args.files.now c.args.schema.now c.args.main.now (map string_bytes c.args.others.now) (fewer_named string_bytes c.args.others.now 4294967295 c.if-others-ge-TOO_MANY.false) c.schema_of.new.files c.in_err-tables.field-0.0 c.in_err-tables.ensures)

pub returns-in_err-list : goal.returns-in_err-list
returns-in_err-list g c =
    let p = err_from_is_err_and c.from_residual-in_err-list.result c.from_residual-in_err-list.ensures.1 in
    rw (p.1, p.2) (at_functions g.F.Files c.args.files.now c.args.schema.now c.args.main.now (map string_bytes c.args.others.now) (fewer_named string_bytes c.args.others.now 4294967295 c.if-others-ge-TOO_MANY.false) c.schema_of.new.files c.in_ok-tables.tables.schema c.in_ok-tables.ensures
    c.functions_of.new.files c.in_err-list.field-0.0 c.in_err-list.ensures.follows)

pub returns : goal.returns
returns g c =
    at_program g.F.Files c.args.files.now c.args.schema.now c.args.main.now (map string_bytes c.args.others.now) (fewer_named string_bytes c.args.others.now 4294967295 c.if-others-ge-TOO_MANY.false) c.schema_of.new.files c.in_ok-tables.tables.schema c.in_ok-tables.ensures
    c.functions_of.new.files c.in_ok-list.list c.judged_and_written.ensures.0 (run_end c.judged_and_written.result) c.in_ok-list.ensures.follows
    (subst (λ fs. IsEnd (EndsOnProgram c.args.main.now (map string_bytes c.args.others.now) c.judged_and_written.ensures.0 c.in_ok-tables.tables.schema fs) (run_end c.judged_and_written.result)) c.as_slice.ensures c.judged_and_written.ensures.1)
