use Rattle.std.proofs.Common.{◌≡◌, ◌++◌, drop}
use Rattle.inline_calls.proofs.judged.add_types.Given as goal

abbrev pub invariant-loop-t : goal.invariant-loop-t
invariant-loop-t l = l.all ++ drop l.t-index l.types ≡ l.initial.all ++ l.types
