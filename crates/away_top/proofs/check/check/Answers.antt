use Rattle.std.proofs.Common.{subst}
use Rattle.std.proofs.lemmas.Result.{err_from_is_err_and}
use Rattle.away_types.specs.declared.checked_function.CheckedFunction.{CheckedFunction}
use Rattle.away_types.specs.declared.checked_query.CheckedQuery.{CheckedQuery}
use Rattle.away_top.specs.CheckCourse.{IsJudgedSo}
use Rattle.away_top.specs.Files.{as_asked, as_callable}
use Rattle.away_top.specs.Runs.{IsEnd}
use Rattle.away_top.specs.Steps.{run_end}
use Rattle.away_top.proofs.Checking.{cert_stops, function_stops, query_stops, schema_stops, verdict, with_asked, with_callable, with_tables}
use Rattle.away_top.proofs.check.check.Goals as goal

pub returns-in_err-tables : goal.returns-in_err-tables
returns-in_err-tables g c =
    let p = err_from_is_err_and c.from_residual.result c.from_residual.ensures.1 in
    rw (p.1, p.2) (schema_stops g.F.Files c.args.files.now c.args.schema.now c.args.func.now c.args.query.now c.args.cert.now c.schema_of.new.files c.in_err-tables.field-0.0 c.in_err-tables.ensures)

pub returns-in_err-function : goal.returns-in_err-function
returns-in_err-function g c =
    let p = err_from_is_err_and c.from_residual-in_err-function.result c.from_residual-in_err-function.ensures.1 in
    let tables = with_tables g.F.Files c.args.files.now c.args.schema.now c.args.func.now c.args.query.now c.args.cert.now c.schema_of.new.files c.in_ok-tables.tables.schema c.in_ok-tables.ensures in
    rw (p.1, p.2) (function_stops g.F.Files c.args.files.now c.args.schema.now c.args.func.now c.args.query.now c.args.cert.now c.schema_of.new.files c.function_of.new.files c.in_ok-tables.tables.schema c.in_err-function.field-0.0 tables c.in_err-function.ensures)

pub returns-in_err-query : goal.returns-in_err-query
returns-in_err-query g c =
    let p = err_from_is_err_and c.from_residual-in_err-query.result c.from_residual-in_err-query.ensures.1 in
    let tables = with_tables g.F.Files c.args.files.now c.args.schema.now c.args.func.now c.args.query.now c.args.cert.now c.schema_of.new.files c.in_ok-tables.tables.schema c.in_ok-tables.ensures in
    let function = with_callable g.F.Files c.args.files.now c.args.schema.now c.args.func.now c.args.query.now c.args.cert.now c.schema_of.new.files c.function_of.new.files c.in_ok-tables.tables.schema (as_callable c.in_ok-function.function) tables c.in_ok-function.ensures in
    rw (p.1, p.2) (query_stops g.F.Files c.args.files.now c.args.schema.now c.args.func.now c.args.query.now c.args.cert.now c.function_of.new.files c.query_of.new.files c.in_ok-tables.tables.schema (as_callable c.in_ok-function.function) c.in_err-query.field-0.0 function c.in_err-query.ensures)

pub returns-in_err-forms : goal.returns-in_err-forms
returns-in_err-forms g c =
    let p = err_from_is_err_and c.from_residual-in_err-forms.result c.from_residual-in_err-forms.ensures.1 in
    let tables = with_tables g.F.Files c.args.files.now c.args.schema.now c.args.func.now c.args.query.now c.args.cert.now c.schema_of.new.files c.in_ok-tables.tables.schema c.in_ok-tables.ensures in
    let function = with_callable g.F.Files c.args.files.now c.args.schema.now c.args.func.now c.args.query.now c.args.cert.now c.schema_of.new.files c.function_of.new.files c.in_ok-tables.tables.schema (as_callable c.in_ok-function.function) tables c.in_ok-function.ensures in
    let query = with_asked g.F.Files c.args.files.now c.args.schema.now c.args.func.now c.args.query.now c.args.cert.now c.function_of.new.files c.query_of.new.files c.in_ok-tables.tables.schema (as_callable c.in_ok-function.function) (as_asked c.in_ok-query.query) function c.in_ok-query.ensures in
    rw (p.1, p.2) (cert_stops g.F.Files c.args.files.now c.args.schema.now c.args.func.now c.args.query.now c.args.cert.now c.query_of.new.files c.cert_of.new.files c.in_ok-tables.tables.schema (as_callable c.in_ok-function.function) (as_asked c.in_ok-query.query) c.in_err-forms.field-0.0 query c.in_err-forms.ensures)

pub returns : goal.returns
returns g c =
    let tables = with_tables g.F.Files c.args.files.now c.args.schema.now c.args.func.now c.args.query.now c.args.cert.now c.schema_of.new.files c.in_ok-tables.tables.schema c.in_ok-tables.ensures in
    let function = with_callable g.F.Files c.args.files.now c.args.schema.now c.args.func.now c.args.query.now c.args.cert.now c.schema_of.new.files c.function_of.new.files c.in_ok-tables.tables.schema (as_callable c.in_ok-function.function) tables c.in_ok-function.ensures in
    let query = with_asked g.F.Files c.args.files.now c.args.schema.now c.args.func.now c.args.query.now c.args.cert.now c.function_of.new.files c.query_of.new.files c.in_ok-tables.tables.schema (as_callable c.in_ok-function.function) (as_asked c.in_ok-query.query) function c.in_ok-query.ensures in
    let s = c.in_ok-tables.tables.schema in
    let so : CheckedFunction → CheckedQuery → Type 0 = λ f q. IsEnd (IsJudgedSo s (as_callable f) (as_asked q) c.in_ok-forms.forms) (run_end c.verdict_on.result) in
    let judged = subst (λ f. so f c.in_ok-query.query) c.get.ensures (subst (so c.get.result.now) c.get-2.ensures c.verdict_on.ensures) in
    verdict g.F.Files c.args.files.now c.args.schema.now c.args.func.now c.args.query.now c.args.cert.now c.query_of.new.files c.cert_of.new.files s (as_callable c.in_ok-function.function) (as_asked c.in_ok-query.query) c.in_ok-forms.forms (run_end c.verdict_on.result)
    query c.in_ok-forms.ensures judged
