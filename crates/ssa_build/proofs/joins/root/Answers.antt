use Rattle.std.proofs.Common.{sym, ◌∙◌, subst, arith}
use Rattle.ssa_build.specs.Joins.{IsRoot, walk}
use Rattle.ssa_build.proofs.Walks.{walk_early}
use Rattle.ssa_build.proofs.joins.root.Goals as goal

pub returns-then-next-at : goal.returns-then-next-at
returns-then-next-at c =
    let e = c.loop-step.invariant.0 in
    let r : IsRoot c.args.into.now (walk c.args.into.now c.loop-step.step c.args.name) = subst (λ v. IsRoot c.args.into.now v) e c.if-next-at.true in
    e ∙ sym (walk_early c.args.into.now c.loop-step.step c.args.merges c.args.name r (omega arith))
