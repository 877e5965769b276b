use Rattle.std.proofs.Common.{◌≡◌, ◌++◌, take}
use Rattle.away_types.proofs.function_check.with_all.Given as goal

abbrev pub invariant-loop-x : goal.invariant-loop-x
invariant-loop-x l = l.all ≡ l.fn.first ++ take l.x-index l.more
