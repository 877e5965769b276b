use Rattle.std.proofs.Common.{◌≡◌, ◌+◌, ◌-◌, ◌++◌}
use Rattle.call_expand.specs.Expanding.{further_nulls}
use Rattle.call_expand.proofs.strict.further_nulls.Given as goal

abbrev pub invariant-loop-i : goal.invariant-loop-i
invariant-loop-i l = (l.at ≡ l.k + l.i) × (l.all ++ further_nulls l.names (l.n - l.i) l.at ≡ further_nulls l.names l.n l.k)
