use Rattle.std.proofs.Common.{◌≡◌, drop}
use Rattle.turn_template.specs.TurnTemplate.{is_in}
use Rattle.turn_query.proofs.waits.is_in.Given as goal

abbrev pub invariant-loop-x : goal.invariant-loop-x
invariant-loop-x l = is_in (drop l.x-index l.list) l.name ≡ is_in l.list l.name
