use Rattle.std.proofs.Common.{◌≡◌, ◌++◌, ◌+◌, drop}
use Rattle.inline_law.specs.Written.{are_arguments}
use Rattle.inline_calls.proofs.leaves.add_arguments.Given as goal

abbrev pub invariant-loop-i : goal.invariant-loop-i
invariant-loop-i l = l.links ++ are_arguments (l.i + 3) (drop l.i l.es) ≡ l.initial.links ++ are_arguments 3 l.es
