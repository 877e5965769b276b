use Rattle.std.proofs.Common.{◌≡◌, inr}
use Rattle.away_trees.specs.declared.statements.Function.{Function}
use Rattle.tail_calls.specs.SelfCalls.{IsSelfCaller}
use Rattle.away_top.specs.Course.{RefusedBy}
use Rattle.away_top.specs.Refusals.{ReadsAsFunction}
use Rattle.away_top.specs.UntailCourse.{BreaksSelfRule, RefusesSelfCaller}
use Rattle.away_top.proofs.Compiling.{refused_so}
use Rattle.away_top.proofs.Stretches.{judged_so}
use Rattle.away_top.proofs.files.self_caller_in.Goals as goal

pub returns-in-Ok : goal.returns-in-Ok
returns-in-Ok c =
    let name = c.args.name.now in
    let bytes = c.args.bytes.now in
    let tables = c.args.tables.now.schema in
    let function = c.in-Ok.function in
    let reads : ReadsAsFunction bytes function = record { may_be_read = c.in-Ok.ensures.ok.0; reads = c.in-Ok.ensures.ok.1; within_limits = c.in-Ok.ensures.ok.2 } in
    judged_so (RefusedBy name (BreaksSelfRule tables function)) (RefusedBy name (RefusesSelfCaller tables bytes)) (λ (f : Function). (f ≡ function) × IsSelfCaller tables function) _ c.kept_self_caller.result
    (refused_so name (BreaksSelfRule tables function) (RefusesSelfCaller tables bytes) (λ rule broken. inr (function, reads, broken)))
    (λ f is. (record { written = function; reads_as = reads; unrefused = is.1 }, is.0)) c.kept_self_caller.ensures
