use Rattle.std.proofs.Common.{ℕ, List, subst}
use Rattle.std.proofs.lemmas.Result.{err_from_is_err_and}
use Rattle.away_trees.specs.declared.statements.Function.{Function}
use Rattle.away_top.specs.Runs.{IsEnd}
use Rattle.away_top.specs.Steps.{run_end}
use Rattle.away_top.specs.UntailCourse.{EndsWith, self_caller_course}
use Rattle.away_top.proofs.Compiling.{both_come_to, first_stops, second_stops}
use Rattle.away_top.proofs.untail.untail.Goals as goal

pub returns-in_err-tables : goal.returns-in_err-tables
returns-in_err-tables g c =
    let p = err_from_is_err_and c.from_residual.result c.from_residual.ensures.1 in
    rw (p.1, p.2) (first_stops g.F.Files c.args.schema.now (λ s. self_caller_course s c.args.func.now) (λ text s f. EndsWith c.args.func.now s f text) c.args.files.now c.schema_of.new.files c.in_err-tables.field-0.0 c.in_err-tables.ensures)

pub returns-in_err-function : goal.returns-in_err-function
returns-in_err-function g c =
    let p = err_from_is_err_and c.from_residual-in_err-function.result c.from_residual-in_err-function.ensures.1 in
    rw (p.1, p.2) (second_stops g.F.Files c.args.schema.now (λ s. self_caller_course s c.args.func.now) (λ text s f. EndsWith c.args.func.now s f text) c.args.files.now c.schema_of.new.files c.self_caller_of.new.files c.in_ok-tables.tables.schema c.in_ok-tables.ensures
    c.in_err-function.field-0.0 c.in_err-function.ensures)

pub returns : goal.returns
returns g c =
    let tables = c.in_ok-tables.tables.schema in
    let leads : (f : Function) → Type 0 = λ f. (text : List ℕ) × IsEnd (EndsWith c.args.func.now tables f text) (run_end c.written.result) in
    both_come_to g.F.Files c.args.schema.now (λ s. self_caller_course s c.args.func.now) (λ text s f. EndsWith c.args.func.now s f text) c.args.files.now c.schema_of.new.files c.self_caller_of.new.files tables c.in_ok-tables.ensures
    c.in_ok-function.function (run_end c.written.result) c.in_ok-function.ensures (subst leads c.get.ensures c.written.ensures)
