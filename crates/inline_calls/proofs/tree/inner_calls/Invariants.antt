use Rattle.std.proofs.Common.{◌≡◌, ◌++◌, drop}
use Rattle.inline_law.specs.Written.{inner_calls}
use Rattle.inline_calls.proofs.tree.inner_calls.Given as goal

abbrev pub invariant-loop-es : goal.invariant-loop-es
invariant-loop-es l = l.all ++ inner_calls (drop l.es-index l.calls) ≡ inner_calls l.calls
