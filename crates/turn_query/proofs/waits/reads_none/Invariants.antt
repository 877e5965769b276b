use Rattle.std.proofs.Common.{◌≡◌, drop}
use Rattle.turn_template.specs.TurnTemplate.{reads_none}
use Rattle.turn_query.proofs.waits.reads_none.Given as goal

abbrev pub invariant-loop-name : goal.invariant-loop-name
invariant-loop-name l = reads_none l.waits (drop l.name-index l.names) ≡ reads_none l.waits l.names
