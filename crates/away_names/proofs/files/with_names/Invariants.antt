use Rattle.std.proofs.Common.{◌≡◌, ◌++◌, drop}
use Rattle.away_names.proofs.files.with_names.Given as goal

abbrev pub invariant-loop-n : goal.invariant-loop-n
invariant-loop-n l = l.fn.before ++ l.names ≡ l.all ++ drop l.n-index l.names
