use Rattle.std.proofs.Common.{◌≡◌, ◌++◌, drop}
use Rattle.inline_calls.proofs.starts.copied_from.Given as goal

abbrev pub invariant-loop-f : goal.invariant-loop-f
invariant-loop-f l = l.list ++ drop l.f-index l.from ≡ l.from
