use Rattle.std.proofs.Common.{◌≡◌, ◌++◌, drop}
use Rattle.away_typing.proofs.params.extended.Given as goal

abbrev pub invariant-loop-y : goal.invariant-loop-y
invariant-loop-y l = l.fn.before ++ l.more ≡ l.all ++ drop l.y-index l.more
