use Rattle.std.proofs.Common.{sym, ◌∙◌}
use Rattle.turn_query.proofs.WaitRules.{renames_short, renames_few}
use Rattle.turn_query.proofs.waits.renames.Goals as goal

pub returns-then-i-waits : goal.returns-then-i-waits
returns-then-i-waits c =
    sym (renames_short c.args.after.now c.args.waits.now c.args.keys.now c.args.args.now c.loop-i.i c.loop-i-test.true c.if-i-waits.true) ∙ c.loop-i.invariant

pub returns-then-waits-after : goal.returns-then-waits-after
returns-then-waits-after c =
    sym (renames_few c.args.after.now c.args.waits.now c.args.keys.now c.args.args.now c.loop-i.i c.loop-i-test.false c.loop-i.auto.i-end c.if-waits-after.true)
    ∙ c.loop-i.invariant
