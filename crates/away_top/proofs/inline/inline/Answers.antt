use Rattle.std.proofs.Common.{ℕ, List, subst, sym}
use Rattle.std.proofs.lemmas.Result.{err_from_is_err_and}
use Rattle.away_trees.specs.declared.queries.Query.{Query}
use Rattle.away_types.specs.declared.checked_function.CheckedFunction.{CheckedFunction}
use Rattle.cte_prints.specs.Texts.{IsOfTexts}
use Rattle.away_top.specs.Files.{as_callable}
use Rattle.away_top.specs.InlineCourse.{EndsWith, HasText}
use Rattle.away_top.specs.Runs.{IsEnd}
use Rattle.away_top.specs.Steps.{run_end}
use Rattle.away_top.proofs.InlineRuns.{at_end, at_function, at_query, at_schema}
use Rattle.away_top.proofs.ReadTexts.{of_texts}
use Rattle.away_top.proofs.inline.inline.Goals as goal

pub written-requires : goal.written-requires
written-requires g c =
    let tables = c.in_ok-tables.tables.schema in
    record {
      texts = subst (λ (f : CheckedFunction). IsOfTexts tables f.function f.slots) (sym c.get-2.ensures)
          (of_texts g.F.Files c.query_read.new.files c.function_of.new.files c.args.func.now tables (as_callable c.in_ok-function.function) c.in_ok-function.ensures);
      has_text = subst HasText (sym c.get.ensures) c.in_ok-calling.ensures.text;
    }

pub returns-in_err-tables : goal.returns-in_err-tables
returns-in_err-tables g c =
    let p = err_from_is_err_and c.from_residual.result c.from_residual.ensures.1 in
    rw (p.1, p.2) (at_schema g.F.Files c.args.files.now c.args.schema.now c.args.query.now c.args.func.now c.schema_of.new.files c.in_err-tables.field-0.0 c.in_err-tables.ensures)

pub returns-in_err-calling : goal.returns-in_err-calling
returns-in_err-calling g c =
    let p = err_from_is_err_and c.from_residual-in_err-calling.result c.from_residual-in_err-calling.ensures.1 in
    rw (p.1, p.2) (at_query g.F.Files c.args.files.now c.args.schema.now c.args.query.now c.args.func.now c.schema_of.new.files c.in_ok-tables.tables.schema c.in_ok-tables.ensures
    c.query_read.new.files c.in_err-calling.field-0.0 c.in_err-calling.ensures.follows)

pub returns-in_err-function : goal.returns-in_err-function
returns-in_err-function g c =
    let p = err_from_is_err_and c.from_residual-in_err-function.result c.from_residual-in_err-function.ensures.1 in
    rw (p.1, p.2) (at_function g.F.Files c.args.files.now c.args.schema.now c.args.query.now c.args.func.now c.schema_of.new.files c.in_ok-tables.tables.schema c.in_ok-tables.ensures
    c.query_read.new.files c.in_ok-calling.calling c.in_ok-calling.ensures.follows c.function_of.new.files c.in_err-function.field-0.0 c.in_err-function.ensures)

pub returns : goal.returns
returns g c =
    let s = c.in_ok-tables.tables.schema in
    let so : Query → CheckedFunction → Type 0 = λ q f. (text : List ℕ) × IsEnd (EndsWith c.args.query.now c.args.func.now s q (as_callable f) text) (run_end c.written.result) in
    let ends_so = subst (λ q. so q c.in_ok-function.function) c.get.ensures (subst (so c.get.result.now) c.get-2.ensures c.written.ensures) in
    at_end g.F.Files c.args.files.now c.args.schema.now c.args.query.now c.args.func.now c.schema_of.new.files s c.in_ok-tables.ensures
    c.query_read.new.files c.in_ok-calling.calling c.in_ok-calling.ensures.follows c.function_of.new.files (as_callable c.in_ok-function.function) (run_end c.written.result) c.in_ok-function.ensures ends_so
