use Rattle.std.proofs.Common.{◌≡◌, drop}
use Rattle.turn_template.specs.TurnTemplate.{covers}
use Rattle.turn_query.proofs.waits.covers.Given as goal

abbrev pub invariant-loop-i : goal.invariant-loop-i
invariant-loop-i l = covers l.waits l.after (drop l.i l.keys) (drop l.i l.args) ≡ covers l.waits l.after l.keys l.args
