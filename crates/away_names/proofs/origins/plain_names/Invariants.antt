use Rattle.std.proofs.Common.{◌≡◌, ◌++◌, drop}
use Rattle.away_names.specs.Naming.{plain_names}
use Rattle.away_names.proofs.origins.plain_names.Given as goal

abbrev pub invariant-loop-n : goal.invariant-loop-n
invariant-loop-n l = l.all ++ plain_names (drop l.n-index l.names) ≡ plain_names l.names
