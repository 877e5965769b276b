use Rattle.std.proofs.Common.{ap}
use Rattle.inline_calls.specs.Seen.{seen}
use Rattle.inline_calls.proofs.InliningRules.{inlined_so, told_so}
use Rattle.inline_calls.proofs.inlining.inline.Goals as goal

pub returns-in-Ok-clause-ok : goal.returns-in-Ok-clause-ok
returns-in-Ok-clause-ok c =
    let s = c.args.s.now.schema in
    let f = c.args.f.now in
    let x = c.args.forms.now in
    inlined_so s f.function f.slots x.goto x.ssa x.anf x.tail (seen c.in-Ok.calls) (seen c.get.result.now) c.args.q.now c.written.result
    (ap seen c.get.ensures) c.in-Ok.ensures.ok c.written.ensures.ok

pub returns-in-Ok-clause-err : goal.returns-in-Ok-clause-err
returns-in-Ok-clause-err c =
    let s = c.args.s.now.schema in
    let f = c.args.f.now in
    let x = c.args.forms.now in
    told_so s f.function f.slots x.goto x.ssa x.anf x.tail (seen c.in-Ok.calls) (seen c.get.result.now) c.args.q.now c.written.result
    (ap seen c.get.ensures) c.in-Ok.ensures.ok c.written.ensures.err
