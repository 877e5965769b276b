use Rattle.std.proofs.Common.{◌≡◌, drop}
use Rattle.turn_template.specs.TurnTemplate.{renames}
use Rattle.turn_query.proofs.waits.renames.Given as goal

abbrev pub invariant-loop-i : goal.invariant-loop-i
invariant-loop-i l = renames (drop l.i l.after) (drop l.i l.waits) l.keys l.args ≡ renames l.after l.waits l.keys l.args
