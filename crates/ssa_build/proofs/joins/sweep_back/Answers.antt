use Rattle.std.proofs.Common.{◌+◌, ◌-◌, length, arith}
use Rattle.ssa_build.specs.JoinPlaces.{joins_of, names_of}
use Rattle.ssa_build.proofs.JoinPlaces.{within_places}
use Rattle.ssa_build.proofs.Sweep.{swept, swept_false, swept_true}
use Rattle.ssa_build.proofs.Visited.{last, one_last}
use Rattle.ssa_build.proofs.joins.sweep_back.Goals as goal
use Rattle.ssa_build.proofs.joins.sweep_back.Goals.{then-settle, else-settle}

pub loop-done-preserved : goal.loop-done-preserved
loop-done-preserved c =
    let x = c.args.joins.now in
    let many = length x.places.now in
    let done = c.loop-done.done in
    let so = c.loop-done.invariant in
    elim c.if-settle.branch [
      | then-settle w ↦ swept_true (names_of x) (joins_of x) c.args.into.now c.loop-done.into c.args.merges c.loop-done.count (last many done) so (many - 1 - done) c.settle.new.into (last many (done + 1)) c.settle.result w.if-settle.true c.settle.ensures c.if-settle.count w.count-is
      | else-settle w ↦ swept_false (names_of x) (joins_of x) c.args.into.now c.loop-done.into c.args.merges c.loop-done.count (last many done) so (many - 1 - done) c.settle.new.into (last many (done + 1)) (λ i le. one_last many done i c.loop-done-test.true le) c.settle.result w.if-settle.false c.settle.ensures c.if-settle.count w.count-is
    ]

pub returns : goal.returns
returns c =
    let x = c.args.joins.now in
    swept (names_of x) (joins_of x) c.args.into.now c.loop-done.into c.args.merges c.loop-done.count (last (length x.places.now) c.loop-done.done) (λ i j h. let lt = within_places x i j h in omega (arith, lt, c.loop-done-test.false)) c.loop-done.invariant
