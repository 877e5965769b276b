use Rattle.std.proofs.Common.{ap, ◌∙◌, Err, map, string_bytes, subst, sym}
use Rattle.std.proofs.lemmas.Result.{err_from_is_err_and}
use Rattle.sql_meaning.specs.AtBound.{rows_of_tables}
use Rattle.away_top.specs.Programs.{as_program, reply_of}
use Rattle.away_top.specs.Runs.{Follows, goes_on}
use Rattle.away_top.specs.Steps.{IsSpelled, halt_end}
use Rattle.away_top.specs.TableFiles.{tables_course}
use Rattle.away_top.proofs.Running.{at_bound, at_program, at_schema, at_tables, at_values, bound_stops, program_stops, reply_told, reply_wants, schema_stops, tables_stop, values_stop, values_want}
use Rattle.away_top.proofs.over_tables.run.run_over_tables.Goals as goal

pub returns-in_err-bound : goal.returns-in_err-bound
returns-in_err-bound g c =
    let p = err_from_is_err_and c.from_residual.result c.from_residual.ensures.1 in
    rw (p.1, p.2) (bound_stops g.F.Files c.args.files.now c.args.what c.args.bound.now c.args.schema.now c.args.file.now c.args.dir.now (map string_bytes c.args.args.now) c.in_err-bound.field-0.0 (subst (λ o. IsSpelled o (Err c.in_err-bound.field-0.0)) c.bound_of.ensures c.in_err-bound.ensures))

pub returns-in_err-tables : goal.returns-in_err-tables
returns-in_err-tables g c =
    let p = err_from_is_err_and c.from_residual-in_err-tables.result c.from_residual-in_err-tables.ensures.1 in
    let at_n = at_bound g.F.Files c.args.files.now c.args.what c.args.bound.now c.args.schema.now c.args.file.now c.args.dir.now (map string_bytes c.args.args.now) c.in_ok-bound.bound (sym c.bound_of.ensures ∙ c.in_ok-bound.ensures) in
    rw (p.1, p.2) (schema_stops g.F.Files c.args.files.now c.args.what c.args.bound.now c.args.schema.now c.args.file.now c.args.dir.now (map string_bytes c.args.args.now) c.schema_of.new.files c.in_ok-bound.bound c.in_err-tables.field-0.0 at_n c.in_err-tables.ensures)

pub returns-in_err-program : goal.returns-in_err-program
returns-in_err-program g c =
    let p = err_from_is_err_and c.from_residual-in_err-program.result c.from_residual-in_err-program.ensures.1 in
    let at_n = at_bound g.F.Files c.args.files.now c.args.what c.args.bound.now c.args.schema.now c.args.file.now c.args.dir.now (map string_bytes c.args.args.now) c.in_ok-bound.bound (sym c.bound_of.ensures ∙ c.in_ok-bound.ensures) in
    let at_s = at_schema g.F.Files c.args.files.now c.args.what c.args.bound.now c.args.schema.now c.args.file.now c.args.dir.now (map string_bytes c.args.args.now) c.schema_of.new.files c.in_ok-bound.bound c.in_ok-tables.tables.schema at_n c.in_ok-tables.ensures in
    rw (p.1, p.2) (program_stops g.F.Files c.args.files.now c.args.what c.args.bound.now c.args.schema.now c.args.file.now c.args.dir.now (map string_bytes c.args.args.now) c.schema_of.new.files c.read.new.files c.in_ok-bound.bound c.in_ok-tables.tables.schema c.in_err-program.field-0.0 at_s c.in_err-program.ensures)

pub returns-in_err-arguments : goal.returns-in_err-arguments
returns-in_err-arguments g c =
    let p = err_from_is_err_and c.from_residual-in_err-arguments.result c.from_residual-in_err-arguments.ensures.1 in
    let at_n = at_bound g.F.Files c.args.files.now c.args.what c.args.bound.now c.args.schema.now c.args.file.now c.args.dir.now (map string_bytes c.args.args.now) c.in_ok-bound.bound (sym c.bound_of.ensures ∙ c.in_ok-bound.ensures) in
    let at_s = at_schema g.F.Files c.args.files.now c.args.what c.args.bound.now c.args.schema.now c.args.file.now c.args.dir.now (map string_bytes c.args.args.now) c.schema_of.new.files c.in_ok-bound.bound c.in_ok-tables.tables.schema at_n c.in_ok-tables.ensures in
    let at_p = at_program g.F.Files c.args.files.now c.args.what c.args.bound.now c.args.schema.now c.args.file.now c.args.dir.now (map string_bytes c.args.args.now) c.schema_of.new.files c.read.new.files c.in_ok-bound.bound c.in_ok-tables.tables.schema (as_program c.in_ok-program.program) at_s c.in_ok-program.ensures in
    rw (p.1, p.2) (values_want g.F.Files c.args.files.now c.args.what c.args.bound.now c.args.schema.now c.args.file.now c.args.dir.now (map string_bytes c.args.args.now) c.read.new.files c.in_ok-bound.bound c.in_ok-tables.tables.schema (as_program c.in_ok-program.program) at_p)

pub returns-in_err-values : goal.returns-in_err-values
returns-in_err-values g c =
    let p = err_from_is_err_and c.from_residual-in_err-values.result c.from_residual-in_err-values.ensures.1 in
    let at_n = at_bound g.F.Files c.args.files.now c.args.what c.args.bound.now c.args.schema.now c.args.file.now c.args.dir.now (map string_bytes c.args.args.now) c.in_ok-bound.bound (sym c.bound_of.ensures ∙ c.in_ok-bound.ensures) in
    let at_s = at_schema g.F.Files c.args.files.now c.args.what c.args.bound.now c.args.schema.now c.args.file.now c.args.dir.now (map string_bytes c.args.args.now) c.schema_of.new.files c.in_ok-bound.bound c.in_ok-tables.tables.schema at_n c.in_ok-tables.ensures in
    let at_p = at_program g.F.Files c.args.files.now c.args.what c.args.bound.now c.args.schema.now c.args.file.now c.args.dir.now (map string_bytes c.args.args.now) c.schema_of.new.files c.read.new.files c.in_ok-bound.bound c.in_ok-tables.tables.schema (as_program c.in_ok-program.program) at_s c.in_ok-program.ensures in
    rw (p.1, p.2) (values_stop g.F.Files c.args.files.now c.args.what c.args.bound.now c.args.schema.now c.args.file.now c.args.dir.now (map string_bytes c.args.args.now) c.read.new.files c.in_ok-bound.bound c.in_ok-tables.tables.schema (as_program c.in_ok-program.program) c.in_err-values.field-0.0
    (subst (λ o. IsSpelled o (Err c.in_err-values.field-0.0)) c.in_ok-arguments.ensures c.in_err-values.ensures) at_p)

pub returns-in_err-rows : goal.returns-in_err-rows
returns-in_err-rows g c =
    let p = err_from_is_err_and c.from_residual-in_err-rows.result c.from_residual-in_err-rows.ensures.1 in
    let at_n = at_bound g.F.Files c.args.files.now c.args.what c.args.bound.now c.args.schema.now c.args.file.now c.args.dir.now (map string_bytes c.args.args.now) c.in_ok-bound.bound (sym c.bound_of.ensures ∙ c.in_ok-bound.ensures) in
    let at_s = at_schema g.F.Files c.args.files.now c.args.what c.args.bound.now c.args.schema.now c.args.file.now c.args.dir.now (map string_bytes c.args.args.now) c.schema_of.new.files c.in_ok-bound.bound c.in_ok-tables.tables.schema at_n c.in_ok-tables.ensures in
    let at_p = at_program g.F.Files c.args.files.now c.args.what c.args.bound.now c.args.schema.now c.args.file.now c.args.dir.now (map string_bytes c.args.args.now) c.schema_of.new.files c.read.new.files c.in_ok-bound.bound c.in_ok-tables.tables.schema (as_program c.in_ok-program.program) at_s c.in_ok-program.ensures in
    let at_v = at_values g.F.Files c.args.files.now c.args.what c.args.bound.now c.args.schema.now c.args.file.now c.args.dir.now (map string_bytes c.args.args.now) c.read.new.files c.in_ok-bound.bound c.in_ok-tables.tables.schema (as_program c.in_ok-program.program) c.in_ok-values.values (sym c.in_ok-arguments.ensures ∙ c.in_ok-values.ensures) at_p in
    rw (p.1, p.2) (tables_stop g.F.Files c.args.files.now c.args.what c.args.bound.now c.args.schema.now c.args.file.now c.args.dir.now (map string_bytes c.args.args.now) c.read.new.files c.tables_of.new.files c.in_ok-bound.bound c.in_ok-tables.tables.schema (as_program c.in_ok-program.program) c.in_ok-values.values c.in_err-rows.field-0.0 at_v
    (subst (λ ts. Follows g.F.Files c.read.new.files (tables_course c.args.dir.now ts) c.tables_of.new.files (halt_end c.in_err-rows.field-0.0)) c.as_slice.ensures c.in_err-rows.ensures))

pub returns-in_err-reply : goal.returns-in_err-reply
returns-in_err-reply g c =
    let p = err_from_is_err_and c.from_residual-in_err-reply.result c.from_residual-in_err-reply.ensures.1 in
    let at_n = at_bound g.F.Files c.args.files.now c.args.what c.args.bound.now c.args.schema.now c.args.file.now c.args.dir.now (map string_bytes c.args.args.now) c.in_ok-bound.bound (sym c.bound_of.ensures ∙ c.in_ok-bound.ensures) in
    let at_s = at_schema g.F.Files c.args.files.now c.args.what c.args.bound.now c.args.schema.now c.args.file.now c.args.dir.now (map string_bytes c.args.args.now) c.schema_of.new.files c.in_ok-bound.bound c.in_ok-tables.tables.schema at_n c.in_ok-tables.ensures in
    let at_p = at_program g.F.Files c.args.files.now c.args.what c.args.bound.now c.args.schema.now c.args.file.now c.args.dir.now (map string_bytes c.args.args.now) c.schema_of.new.files c.read.new.files c.in_ok-bound.bound c.in_ok-tables.tables.schema (as_program c.in_ok-program.program) at_s c.in_ok-program.ensures in
    let at_v = at_values g.F.Files c.args.files.now c.args.what c.args.bound.now c.args.schema.now c.args.file.now c.args.dir.now (map string_bytes c.args.args.now) c.read.new.files c.in_ok-bound.bound c.in_ok-tables.tables.schema (as_program c.in_ok-program.program) c.in_ok-values.values (sym c.in_ok-arguments.ensures ∙ c.in_ok-values.ensures) at_p in
    let read = subst (λ ts. Follows g.F.Files c.read.new.files (tables_course c.args.dir.now ts) c.tables_of.new.files (goes_on (rows_of_tables c.in_ok-rows.rows.list))) c.as_slice.ensures c.in_ok-rows.ensures in
    let at_t = at_tables g.F.Files c.args.files.now c.args.what c.args.bound.now c.args.schema.now c.args.file.now c.args.dir.now (map string_bytes c.args.args.now) c.read.new.files c.tables_of.new.files c.in_ok-bound.bound c.in_ok-tables.tables.schema (as_program c.in_ok-program.program) c.in_ok-values.values (rows_of_tables c.in_ok-rows.rows.list) at_v read in
    rw (p.1, p.2) (reply_wants g.F.Files c.args.files.now c.args.what c.args.bound.now c.args.schema.now c.args.file.now c.args.dir.now (map string_bytes c.args.args.now) c.tables_of.new.files c.in_ok-bound.bound (as_program c.in_ok-program.program) c.in_ok-values.values (rows_of_tables c.in_ok-rows.rows.list) at_t)

pub returns-in_err-reply_ending : goal.returns-in_err-reply_ending
returns-in_err-reply_ending g c =
    let p = err_from_is_err_and c.from_residual-in_err-reply_ending.result c.from_residual-in_err-reply_ending.ensures.1 in
    let at_n = at_bound g.F.Files c.args.files.now c.args.what c.args.bound.now c.args.schema.now c.args.file.now c.args.dir.now (map string_bytes c.args.args.now) c.in_ok-bound.bound (sym c.bound_of.ensures ∙ c.in_ok-bound.ensures) in
    let at_s = at_schema g.F.Files c.args.files.now c.args.what c.args.bound.now c.args.schema.now c.args.file.now c.args.dir.now (map string_bytes c.args.args.now) c.schema_of.new.files c.in_ok-bound.bound c.in_ok-tables.tables.schema at_n c.in_ok-tables.ensures in
    let at_p = at_program g.F.Files c.args.files.now c.args.what c.args.bound.now c.args.schema.now c.args.file.now c.args.dir.now (map string_bytes c.args.args.now) c.schema_of.new.files c.read.new.files c.in_ok-bound.bound c.in_ok-tables.tables.schema (as_program c.in_ok-program.program) at_s c.in_ok-program.ensures in
    let at_v = at_values g.F.Files c.args.files.now c.args.what c.args.bound.now c.args.schema.now c.args.file.now c.args.dir.now (map string_bytes c.args.args.now) c.read.new.files c.in_ok-bound.bound c.in_ok-tables.tables.schema (as_program c.in_ok-program.program) c.in_ok-values.values (sym c.in_ok-arguments.ensures ∙ c.in_ok-values.ensures) at_p in
    let read = subst (λ ts. Follows g.F.Files c.read.new.files (tables_course c.args.dir.now ts) c.tables_of.new.files (goes_on (rows_of_tables c.in_ok-rows.rows.list))) c.as_slice.ensures c.in_ok-rows.ensures in
    let at_t = at_tables g.F.Files c.args.files.now c.args.what c.args.bound.now c.args.schema.now c.args.file.now c.args.dir.now (map string_bytes c.args.args.now) c.read.new.files c.tables_of.new.files c.in_ok-bound.bound c.in_ok-tables.tables.schema (as_program c.in_ok-program.program) c.in_ok-values.values (rows_of_tables c.in_ok-rows.rows.list) at_v read in
    rw (p.1, p.2) (reply_wants g.F.Files c.args.files.now c.args.what c.args.bound.now c.args.schema.now c.args.file.now c.args.dir.now (map string_bytes c.args.args.now) c.tables_of.new.files c.in_ok-bound.bound (as_program c.in_ok-program.program) c.in_ok-values.values (rows_of_tables c.in_ok-rows.rows.list) at_t)

pub returns : goal.returns
returns g c =
    let at_n = at_bound g.F.Files c.args.files.now c.args.what c.args.bound.now c.args.schema.now c.args.file.now c.args.dir.now (map string_bytes c.args.args.now) c.in_ok-bound.bound (sym c.bound_of.ensures ∙ c.in_ok-bound.ensures) in
    let at_s = at_schema g.F.Files c.args.files.now c.args.what c.args.bound.now c.args.schema.now c.args.file.now c.args.dir.now (map string_bytes c.args.args.now) c.schema_of.new.files c.in_ok-bound.bound c.in_ok-tables.tables.schema at_n c.in_ok-tables.ensures in
    let at_p = at_program g.F.Files c.args.files.now c.args.what c.args.bound.now c.args.schema.now c.args.file.now c.args.dir.now (map string_bytes c.args.args.now) c.schema_of.new.files c.read.new.files c.in_ok-bound.bound c.in_ok-tables.tables.schema (as_program c.in_ok-program.program) at_s c.in_ok-program.ensures in
    let at_v = at_values g.F.Files c.args.files.now c.args.what c.args.bound.now c.args.schema.now c.args.file.now c.args.dir.now (map string_bytes c.args.args.now) c.read.new.files c.in_ok-bound.bound c.in_ok-tables.tables.schema (as_program c.in_ok-program.program) c.in_ok-values.values (sym c.in_ok-arguments.ensures ∙ c.in_ok-values.ensures) at_p in
    let read = subst (λ ts. Follows g.F.Files c.read.new.files (tables_course c.args.dir.now ts) c.tables_of.new.files (goes_on (rows_of_tables c.in_ok-rows.rows.list))) c.as_slice.ensures c.in_ok-rows.ensures in
    let at_t = at_tables g.F.Files c.args.files.now c.args.what c.args.bound.now c.args.schema.now c.args.file.now c.args.dir.now (map string_bytes c.args.args.now) c.read.new.files c.tables_of.new.files c.in_ok-bound.bound c.in_ok-tables.tables.schema (as_program c.in_ok-program.program) c.in_ok-values.values (rows_of_tables c.in_ok-rows.rows.list) at_v read in
    reply_told g.F.Files c.args.files.now c.args.what c.args.bound.now c.args.schema.now c.args.file.now c.args.dir.now (map string_bytes c.args.args.now) c.tables_of.new.files c.in_ok-bound.bound (as_program c.in_ok-program.program) c.in_ok-values.values (rows_of_tables c.in_ok-rows.rows.list) c.in_ok-reply.reply c.in_ok-reply_ending.field-0 at_t
    (c.in_ok-reply.ensures ∙ ap (λ values. reply_of (as_program c.in_ok-program.program) (rows_of_tables c.in_ok-rows.rows.list) values c.in_ok-bound.bound) c.as_slice-2.ensures)
    c.in_ok-reply_ending.ensures
