use Rattle.std.proofs.Common.{inr}
use Rattle.away_types.specs.declared.checked_function.CheckedFunction.{CheckedFunction}
use Rattle.away_types.specs.CheckedFunctions.{IsChecked}
use Rattle.away_types.specs.FunctionChecks.{function_note}
use Rattle.away_top.specs.Course.{RefusedBy}
use Rattle.away_top.specs.Refusals.{HasFinding, ReadsAsFunction, RefusesFunction}
use Rattle.away_top.proofs.Judging.{callable_is}
use Rattle.away_top.proofs.Compiling.{refused_so}
use Rattle.away_top.proofs.Stretches.{judged_so}
use Rattle.away_top.proofs.files.function_in.Goals as goal

pub returns-in-Ok : goal.returns-in-Ok
returns-in-Ok c =
    let name = c.args.name.now in
    let bytes = c.args.bytes.now in
    let tables = c.args.tables.now.schema in
    let function = c.in-Ok.function in
    let reads : ReadsAsFunction bytes function = record { may_be_read = c.in-Ok.ensures.ok.0; reads = c.in-Ok.ensures.ok.1; within_limits = c.in-Ok.ensures.ok.2 } in
    judged_so (RefusedBy name (HasFinding (function_note tables function))) (RefusedBy name (RefusesFunction tables bytes)) (λ (checked : CheckedFunction). IsChecked tables function checked.function checked.slots) _ c.checked_function.result
    (refused_so name (HasFinding (function_note tables function)) (RefusesFunction tables bytes) (λ rule broken. inr (function, reads, broken)))
    (λ checked is. (record { written = function; reads_as = reads; unbroken = is.unbroken }, callable_is tables function checked is)) c.checked_function.ensures
