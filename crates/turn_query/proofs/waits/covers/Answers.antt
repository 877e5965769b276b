use Rattle.std.proofs.Common.{sym, ◌∙◌}
use Rattle.turn_query.proofs.WaitRules.{covers_short}
use Rattle.turn_query.proofs.waits.covers.Goals as goal

pub returns-then-i-args : goal.returns-then-i-args
returns-then-i-args c =
    sym (covers_short c.args.waits.now c.args.after.now c.args.keys.now c.args.args.now c.loop-i.i c.if-i-args.true) ∙ c.loop-i.invariant
