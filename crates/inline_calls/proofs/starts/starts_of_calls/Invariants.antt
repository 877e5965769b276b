use Rattle.std.proofs.Common.{◌≡◌, ◌++◌, ◌+◌, drop}
use Rattle.inline_calls.specs.Tree.{starts}
use Rattle.inline_calls.proofs.starts.starts_of_calls.Given as goal

abbrev pub invariant-loop-i : goal.invariant-loop-i
invariant-loop-i l = l.all ++ starts l.w l.c.select (l.i + 1) (drop l.i l.calls) ≡ starts l.w l.c.select 1 l.calls
