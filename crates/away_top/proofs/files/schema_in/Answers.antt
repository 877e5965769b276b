use Rattle.std.proofs.Common.{inr}
use Rattle.away_names.specs.Schemas.{schema_note}
use Rattle.away_top.specs.Course.{RefusedBy}
use Rattle.away_top.specs.Refusals.{BreaksRule, IsKept, ReadsAsSchema, RefusesSchema}
use Rattle.away_top.proofs.Compiling.{refused_so}
use Rattle.away_top.proofs.Stretches.{judged_so}
use Rattle.away_top.proofs.files.schema_in.Goals as goal

pub returns-in-Ok : goal.returns-in-Ok
returns-in-Ok c =
    let name = c.args.name.now in
    let bytes = c.args.bytes.now in
    let schema = c.in-Ok.schema in
    let reads : ReadsAsSchema bytes schema = record { may_be_read = c.in-Ok.ensures.ok.0; reads = c.in-Ok.ensures.ok.1 } in
    judged_so (RefusedBy name (BreaksRule (schema_note schema))) (RefusedBy name (RefusesSchema bytes)) (λ checked. IsKept schema checked.schema) _ c.checked_schema.result
    (refused_so name (BreaksRule (schema_note schema)) (RefusesSchema bytes) (λ rule broken. inr (schema, reads, broken)))
    (λ checked is. (record { schema = schema; reads_as = reads; unbroken = is.unbroken }, is.same)) c.checked_schema.ensures
