use Rattle.std.proofs.Common.{length, subst}
use Rattle.tail_rec.specs.TailForm.{IsTailForm}
use Rattle.tail_rec.proofs.ColumnsFit.{columned, tight}
use Rattle.tail_rec.proofs.LabelsFit.{merged, few_labels}
use Rattle.tail_rec.proofs.tail.to_tail.Goals as goal

pub returns-clause-merged : goal.returns-clause-merged
returns-clause-merged c =
    let is = c.in_ok-tail_form.ensures.exact in
    merged c.args.goto.now c.args.ssa.now c.args.anf.now c.requires.called c.in_ok-tail_form.field-0 is.labels

pub returns-clause-columned : goal.returns-clause-columned
returns-clause-columned c =
    let slots = c.args.f.now.slots in
    let is = subst (λ l. IsTailForm l c.args.goto.now c.args.ssa.now c.args.anf.now c.in_ok-tail_form.field-0) c.as_slice.ensures c.in_ok-tail_form.ensures.exact in
    columned slots (length c.args.f.now.function.params) c.args.goto.now c.args.ssa.now c.args.anf.now c.requires.named c.requires.called c.in_ok-tail_form.field-0 is

pub returns-clause-tight : goal.returns-clause-tight
returns-clause-tight c =
    let slots = c.args.f.now.slots in
    let is = subst (λ l. IsTailForm l c.args.goto.now c.args.ssa.now c.args.anf.now c.in_ok-tail_form.field-0) c.as_slice.ensures c.in_ok-tail_form.ensures.exact in
    tight slots (length c.args.f.now.function.params) c.args.goto.now c.args.ssa.now c.args.anf.now c.requires.named c.requires.called c.in_ok-tail_form.field-0 is

pub returns-clause-few_labels : goal.returns-clause-few_labels
returns-clause-few_labels c =
    few_labels c.args.goto.now c.args.ssa.now c.args.anf.now c.requires.called c.in_ok-tail_form.field-0 c.in_ok-tail_form.ensures.exact.labels
