use Rattle.std.proofs.Common.{length, get_or, ap, subst, arith}
use Rattle.cte_check.specs.Walks.{BranchRead}
use Rattle.cte_check.proofs.Branches.{no_label, one_label}
use Rattle.cte_check.proofs.check.branches.Goals as goal

pub loop-i-init : goal.loop-i-init
loop-i-init c table given to h = h

pub loop-i-preserved : goal.loop-i-preserved
loop-i-preserved c table given to h =
    let g = c.args.g.now in
    let as_many = ap length c.as_slice-labels.ensures in
    c.loop-i.invariant table given to
    (one_label table g g.tail.now.labels c.loop-i.i c.loop-i.at c.in_ok-at.at to (omega (arith, c.loop-i-test.true, as_many))
    (subst (λ l. BranchRead table g c.loop-i.i (get_or l c.loop-i.i 0) c.loop-i.at c.in_ok-at.at) c.as_slice-labels.ensures (c.in_ok-at.ensures table given)) h)

pub returns : goal.returns
returns c table given =
    let g = c.args.g.now in
    let as_many = ap length c.as_slice-labels.ensures in
    c.loop-i.invariant table given c.loop-i.at (no_label table g g.tail.now.labels c.loop-i.i c.loop-i.at (omega (arith, c.loop-i-test.false, as_many)))
