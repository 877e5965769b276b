use Rattle.std.proofs.Common.{◌≡◌, ◌++◌, drop}
use Rattle.turn_template.specs.TurnTemplate.{keys_of}
use Rattle.turn_query.proofs.waits.add_keys.Given as goal

abbrev pub invariant-loop-i : goal.invariant-loop-i
invariant-loop-i l = l.list ++ keys_of l.name (drop l.i l.keys) (drop l.i l.args) ≡ l.fn.list ++ keys_of l.name l.keys l.args
