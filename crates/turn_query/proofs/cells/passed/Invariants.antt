use Rattle.std.proofs.Common.{◌≡◌, drop}
use Rattle.turn_template.specs.TurnTemplate.{passed}
use Rattle.turn_query.proofs.cells.passed.Given as goal

abbrev pub invariant-loop-i : goal.invariant-loop-i
invariant-loop-i l = passed l.keys l.names l.number ≡ passed (drop l.i l.keys) (drop l.i l.names) l.number
