use Rattle.std.proofs.Common.{◌≡◌, map, take}
use Rattle.turn_terms.specs.References.{value_in}
use Rattle.turn_terms.proofs.references.values_of.Given as goal

abbrev pub invariant-loop-i : goal.invariant-loop-i
invariant-loop-i l = l.list ≡ map (value_in l.refs) (take l.i l.names)
