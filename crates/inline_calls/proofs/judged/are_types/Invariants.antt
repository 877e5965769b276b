use Rattle.std.proofs.Common.{◌≡◌, drop}
use Rattle.inline_calls.specs.Judged.{are_types}
use Rattle.inline_calls.proofs.judged.are_types.Given as goal

abbrev pub invariant-loop-t : goal.invariant-loop-t
invariant-loop-t l = are_types l.left l.right ≡ are_types (drop l.t-index l.left) l.rest
