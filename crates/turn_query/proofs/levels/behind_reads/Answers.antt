use Rattle.std.proofs.Common.{◌≤◌, arith}
use Rattle.turn_query.proofs.LevelRules.{next_read, none_read, all_read}
use Rattle.turn_query.proofs.levels.behind_reads.Goals as goal

pub loop-left-init : goal.loop-left-init
loop-left-init c = (omega arith, none_read c.args.first c.args.many c.args.e)

pub loop-left-preserved : goal.loop-left-preserved
loop-left-preserved c =
    let some : 1 ≤ c.loop-left.left = omega (arith, c.loop-left-test.true) in (
      omega (arith, c.loop-left.invariant.0),
      next_read c.args.first c.loop-left.left c.args.many c.loop-left.behind c.in_ok-behind.behind c.args.e c.in_ok-sum.field-0
          some c.loop-left.invariant.0 c.in_ok-sum.ensures c.loop-left.invariant.1 c.in_ok-behind.ensures,
    )

pub returns : goal.returns
returns c =
    let none : c.loop-left.left ≤ 0 = omega (arith, c.loop-left-test.false) in
    all_read c.args.first c.loop-left.left c.args.many c.loop-left.behind c.args.e none c.loop-left.invariant.1
