use Rattle.std.proofs.Common.{◌+◌, arith}
use Rattle.ssa_build.specs.JoinPlaces.{joins_of, names_of}
use Rattle.ssa_build.proofs.JoinPlaces.{within_places}
use Rattle.ssa_build.proofs.Sweep.{swept, swept_false, swept_true}
use Rattle.ssa_build.proofs.Visited.{first, one_first}
use Rattle.ssa_build.proofs.joins.sweep.Goals as goal
use Rattle.ssa_build.proofs.joins.sweep.Goals.{then-settle, else-settle}

pub loop-at-preserved : goal.loop-at-preserved
loop-at-preserved c =
    let x = c.args.joins.now in
    let at = c.loop-at.at in
    elim c.if-settle.branch [
      | then-settle w ↦ swept_true (names_of x) (joins_of x) c.args.into.now c.loop-at.into c.args.merges c.loop-at.count (first at) c.loop-at.invariant at c.settle.new.into (first (at + 1)) c.settle.result w.if-settle.true c.settle.ensures c.if-settle.count w.count-is
      | else-settle w ↦ swept_false (names_of x) (joins_of x) c.args.into.now c.loop-at.into c.args.merges c.loop-at.count (first at) c.loop-at.invariant at c.settle.new.into (first (at + 1)) (one_first at) c.settle.result w.if-settle.false c.settle.ensures c.if-settle.count w.count-is
    ]

pub returns : goal.returns
returns c =
    let x = c.args.joins.now in
    swept (names_of x) (joins_of x) c.args.into.now c.loop-at.into c.args.merges c.loop-at.count (first c.loop-at.at) (λ i j h. let lt = within_places x i j h in omega (arith, lt, c.loop-at-test.false)) c.loop-at.invariant
