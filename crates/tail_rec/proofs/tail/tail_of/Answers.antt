use Rattle.std.proofs.Common.{subst}
use Rattle.tail_rec.specs.TailForm.{IsColumned}
use Rattle.tail_rec.proofs.ColumnsFit.{columned_labels}
use Rattle.tail_rec.proofs.tail.tail_of.Goals as goal

pub returns-clause-columned : goal.returns-clause-columned
returns-clause-columned c =
    let is = subst (λ l. IsColumned l c.args.ssa.now c.args.anf.now c.args.labels c.in_ok-columned.field-0) c.as_slice.ensures c.in_ok-columned.ensures.exact in
    columned_labels c.args.f.now.slots c.args.ssa.now c.args.anf.now c.requires.names c.requires.parameters c.args.labels c.in_ok-columned.field-0 is
    c.requires.labels_are_blocks
