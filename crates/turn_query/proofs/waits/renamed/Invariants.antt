use Rattle.std.proofs.Common.{◌≡◌, ◌++◌, drop}
use Rattle.turn_template.specs.TurnTemplate.{renamed}
use Rattle.turn_query.proofs.waits.renamed.Given as goal

abbrev pub invariant-loop-wait : goal.invariant-loop-wait
invariant-loop-wait l = l.list ++ renamed (drop l.wait-index l.waits) l.keys l.args ≡ renamed l.waits l.keys l.args
