use Rattle.std.proofs.Common.{◌≡◌, ◌++◌, drop}
use Rattle.inline_law.specs.Written.{cast_arguments}
use Rattle.inline_calls.proofs.starts.cast_arguments.Given as goal

abbrev pub invariant-loop-e : goal.invariant-loop-e
invariant-loop-e l = l.done ++ cast_arguments l.left (drop l.e-index l.es) ≡ cast_arguments l.types l.es
