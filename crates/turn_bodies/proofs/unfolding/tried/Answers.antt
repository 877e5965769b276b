use Rattle.std.proofs.Common.{◌-◌, ◌<◌, length, ap, subst}
use Rattle.block_forms.specs.Places.{Each}
use Rattle.turn_bodies.proofs.Unfolds.{unfolds}
use Rattle.turn_bodies.proofs.unfolding.tried.Goals as goal

pub returns-then-branch : goal.returns-then-branch
returns-then-branch c =
    let below = subst (λ n. Each (λ b. b < n) c.as_slice.result.now) c.len.ensures (c.all_below.ensures c.if-not-all_below.false) in
    let blocks = subst (λ l. Each (λ b. b < length c.args.anf.now.blocks) l) c.as_slice.ensures below in
    unfolds c.args.f.now.slots c.args.goto.now c.args.ssa.now c.args.anf.now (record { tail = c.in_ok-tail.tail; heads = c.len-heads.result - 1 }) c.args.labels
    c.requires.entry c.in_ok-tail.ensures.exact.labels (ap (λ n. n - 1) c.len-heads.ensures) blocks (c.in_ok-passes.ensures c.if-branch.true)
    c.in_ok-tail.ensures.columned
