use Rattle.std.proofs.Common.{◌∙◌}
use Rattle.ssa_build.proofs.Ordered.{pushed}
use Rattle.ssa_build.proofs.names.push_slots.Goals as goal

pub loop-slot-preserved : goal.loop-slot-preserved
loop-slot-preserved c = c.in_ok-push.ensures.items ∙ pushed c.args.names.now.items c.loop-slot.names.items c.loop-slot.slot c.loop-slot.invariant
