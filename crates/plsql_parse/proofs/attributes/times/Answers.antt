use Rattle.std.proofs.Common.{arith}
use Rattle.plsql_parse.proofs.Words.{times_counted, times_passed}
use Rattle.plsql_parse.specs.HeaderRead.{of_group}
use Rattle.plsql_parse.proofs.attributes.times.Goals.{then-is_of, else-is_of}
use Rattle.plsql_parse.proofs.attributes.times.Goals as goal

pub loop-attribute-preserved : goal.loop-attribute-preserved
loop-attribute-preserved c =
    elim c.if-is_of.branch [
      | then-is_of w ↦ record { few = omega (arith, c.loop-attribute.invariant.few, w.count-is); counted = times_counted (of_group c.args.group) c.args.found.now c.loop-attribute.attribute-index _ _ _ c.loop-attribute-test.true w.if-is_of.ensures c.loop-attribute.invariant.counted w.count-is }
      | else-is_of w ↦ record { few = omega (arith, c.loop-attribute.invariant.few, w.count-is); counted = times_passed (of_group c.args.group) c.args.found.now c.loop-attribute.attribute-index _ _ _ c.loop-attribute-test.true w.if-is_of.ensures c.loop-attribute.invariant.counted w.count-is }
    ]
