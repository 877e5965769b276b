use Rattle.std.proofs.Common.{◌≡◌, drop, None}
use Rattle.std.specs.Option.{option_copied}
use Rattle.away_names.specs.Lookups.{variable_after}
use Rattle.away_names.proofs.lookups.variable_named.Given as goal

abbrev pub invariant-loop-v : goal.invariant-loop-v
invariant-loop-v l = variable_after l.n None l.variables ≡ variable_after l.n (option_copied l.found) (drop l.v-index l.variables)
