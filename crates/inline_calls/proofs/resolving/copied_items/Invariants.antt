use Rattle.std.proofs.Common.{◌≡◌, ◌++◌, drop}
use Rattle.inline_calls.proofs.resolving.copied_items.Given as goal

abbrev pub invariant-loop-i : goal.invariant-loop-i
invariant-loop-i l = l.all ++ drop l.i-index l.list ≡ l.list
