use Rattle.std.proofs.Common.{◌++◌}
use Rattle.turn_template.specs.TurnTemplate.{keys_of}
use Rattle.turn_query.proofs.WaitRules.{keys_short}
use Rattle.turn_query.proofs.waits.add_keys.Goals as goal

pub returns-then-i-args : goal.returns-then-i-args
returns-then-i-args c =
    keys_short c.args.name c.args.keys.now c.args.args.now c.loop-i.i (c.args.list.now ++ keys_of c.args.name c.args.keys.now c.args.args.now) c.loop-i.list
    c.if-i-args.true c.loop-i.invariant
