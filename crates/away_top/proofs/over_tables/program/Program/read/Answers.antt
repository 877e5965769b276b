use Rattle.std.proofs.Common.{refl, subst, sym}
use Rattle.std.proofs.lemmas.Result.{err_from_is_err_and}
use Rattle.away_top.specs.declared.over_tables.program.Runnable.{Runnable}
use Rattle.away_top.specs.Course.{gives}
use Rattle.away_top.specs.Files.{as_asked, as_callable, as_row_query, function_course, query_course, row_query_course}
use Rattle.away_top.specs.Programs.{function, program_course, query, rows}
use Rattle.away_top.specs.Runs.{Follows, goes_on}
use Rattle.away_top.specs.Steps.{halt_end}
use Rattle.away_top.proofs.Stretches.{goes_further, stops_early}
use Rattle.away_top.proofs.over_tables.program.Program.read.Goals as goal

pub returns-in_err-query_of-in-Query : goal.returns-in_err-query_of-in-Query
returns-in_err-query_of-in-Query g c =
    let p = err_from_is_err_and c.from_residual.result c.from_residual.ensures.1 in
    let schema = c.args.tables.now.schema in
    let halt = c.in_err-query_of-in-Query.field-0.0 in
    rw (p.1, p.2) (subst (λ (what : Runnable). Follows g.F.Files c.args.files.now (program_course what schema c.args.name.now) c.query_of.new.files (halt_end halt))
    (sym c.in-Query.is)
    (stops_early g.F.Files c.args.files.now c.query_of.new.files (query_course schema c.args.name.now) (λ x. gives (query x)) halt c.in_err-query_of-in-Query.ensures))

pub returns-in_err-row_query_of-in-Rows : goal.returns-in_err-row_query_of-in-Rows
returns-in_err-row_query_of-in-Rows g c =
    let p = err_from_is_err_and c.from_residual-in_err-row_query_of-in-Rows.result c.from_residual-in_err-row_query_of-in-Rows.ensures.1 in
    let schema = c.args.tables.now.schema in
    let halt = c.in_err-row_query_of-in-Rows.field-0.0 in
    rw (p.1, p.2) (subst (λ (what : Runnable). Follows g.F.Files c.args.files.now (program_course what schema c.args.name.now) c.row_query_of.new.files (halt_end halt))
    (sym c.in-Rows.is)
    (stops_early g.F.Files c.args.files.now c.row_query_of.new.files (row_query_course schema c.args.name.now) (λ x. gives (rows x)) halt c.in_err-row_query_of-in-Rows.ensures))

pub returns-in_err-function_of-in-Function : goal.returns-in_err-function_of-in-Function
returns-in_err-function_of-in-Function g c =
    let p = err_from_is_err_and c.from_residual-in_err-function_of-in-Function.result c.from_residual-in_err-function_of-in-Function.ensures.1 in
    let schema = c.args.tables.now.schema in
    let halt = c.in_err-function_of-in-Function.field-0.0 in
    rw (p.1, p.2) (subst (λ (what : Runnable). Follows g.F.Files c.args.files.now (program_course what schema c.args.name.now) c.function_of.new.files (halt_end halt))
    (sym c.in-Function.is)
    (stops_early g.F.Files c.args.files.now c.function_of.new.files (function_course schema c.args.name.now) (λ x. gives (function x)) halt c.in_err-function_of-in-Function.ensures))

pub returns-in_ok-query_of-in-Query : goal.returns-in_ok-query_of-in-Query
returns-in_ok-query_of-in-Query g c =
    let schema = c.args.tables.now.schema in
    let x = as_asked c.in_ok-query_of-in-Query.field-0 in
    let after = c.query_of.new.files in
    subst (λ (what : Runnable). Follows g.F.Files c.args.files.now (program_course what schema c.args.name.now) after (goes_on (query x)))
    (sym c.in-Query.is)
    (goes_further g.F.Files c.args.files.now after after (query_course schema c.args.name.now) (λ x. gives (query x)) x (goes_on (query x))
    c.in_ok-query_of-in-Query.ensures (record { same = refl; how = refl }))

pub returns-in_ok-row_query_of-in-Rows : goal.returns-in_ok-row_query_of-in-Rows
returns-in_ok-row_query_of-in-Rows g c =
    let schema = c.args.tables.now.schema in
    let x = as_row_query c.in_ok-row_query_of-in-Rows.field-0 in
    let after = c.row_query_of.new.files in
    subst (λ (what : Runnable). Follows g.F.Files c.args.files.now (program_course what schema c.args.name.now) after (goes_on (rows x)))
    (sym c.in-Rows.is)
    (goes_further g.F.Files c.args.files.now after after (row_query_course schema c.args.name.now) (λ x. gives (rows x)) x (goes_on (rows x))
    c.in_ok-row_query_of-in-Rows.ensures (record { same = refl; how = refl }))

pub returns-in_ok-function_of-in-Function : goal.returns-in_ok-function_of-in-Function
returns-in_ok-function_of-in-Function g c =
    let schema = c.args.tables.now.schema in
    let x = as_callable c.in_ok-function_of-in-Function.field-0 in
    let after = c.function_of.new.files in
    subst (λ (what : Runnable). Follows g.F.Files c.args.files.now (program_course what schema c.args.name.now) after (goes_on (function x)))
    (sym c.in-Function.is)
    (goes_further g.F.Files c.args.files.now after after (function_course schema c.args.name.now) (λ x. gives (function x)) x (goes_on (function x))
    c.in_ok-function_of-in-Function.ensures (record { same = refl; how = refl }))
