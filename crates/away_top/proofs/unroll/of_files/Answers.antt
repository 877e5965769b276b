use Rattle.std.proofs.lemmas.Result.{err_from_is_err_and}
use Rattle.std.proofs.Common.{ℕ, List, subst, sym}
use Rattle.away_types.specs.declared.checked_function.CheckedFunction.{CheckedFunction}
use Rattle.away_top.specs.Files.{as_callable}
use Rattle.away_top.specs.Runs.{IsEnd}
use Rattle.away_top.specs.Steps.{run_end}
use Rattle.away_top.specs.UnrollCourse.{Unrolls}
use Rattle.away_top.proofs.Compiling.{comes_to, function_stops, schema_stops}
use Rattle.away_top.proofs.ReadTexts.{of_texts}
use Rattle.cte_prints.specs.Texts.{IsOfTexts}
use Rattle.away_top.proofs.unroll.of_files.Goals as goal

pub written-requires-clause-texts : goal.written-requires-clause-texts
written-requires-clause-texts g c =
    let tables = c.in_ok-tables.tables.schema in
    subst (λ (f : CheckedFunction). IsOfTexts tables f.function f.slots) (sym c.get.ensures)
    (of_texts g.F.Files c.schema_of.new.files c.function_of.new.files c.args.func.now tables (as_callable c.in_ok-function.function) c.in_ok-function.ensures)

pub returns-in_err-tables : goal.returns-in_err-tables
returns-in_err-tables g c =
    let p = err_from_is_err_and c.from_residual.result c.from_residual.ensures.1 in
    rw (p.1, p.2) (schema_stops g.F.Files c.args.schema.now c.args.func.now (λ text. Unrolls c.args.most text) c.args.files.now c.schema_of.new.files c.in_err-tables.field-0.0 c.in_err-tables.ensures)

pub returns-in_err-function : goal.returns-in_err-function
returns-in_err-function g c =
    let p = err_from_is_err_and c.from_residual-in_err-function.result c.from_residual-in_err-function.ensures.1 in
    rw (p.1, p.2) (function_stops g.F.Files c.args.schema.now c.args.func.now (λ text. Unrolls c.args.most text) c.args.files.now c.schema_of.new.files c.function_of.new.files c.in_ok-tables.tables.schema c.in_ok-tables.ensures c.in_err-function.field-0.0 c.in_err-function.ensures)

pub returns : goal.returns
returns g c =
    let tables = c.in_ok-tables.tables.schema in
    let leads : (f : CheckedFunction) → Type 0 = λ f. (text : List ℕ) × IsEnd (Unrolls c.args.most text tables (as_callable f)) (run_end c.written.result) in
    comes_to g.F.Files c.args.schema.now c.args.func.now (λ text. Unrolls c.args.most text) c.args.files.now c.schema_of.new.files c.function_of.new.files tables c.in_ok-tables.ensures
    (as_callable c.in_ok-function.function) (run_end c.written.result) c.in_ok-function.ensures (subst leads c.get.ensures c.written.ensures)
