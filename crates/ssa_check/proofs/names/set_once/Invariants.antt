use Rattle.std.proofs.Common.{ℕ, ◌<◌, ◌≤◌}
use Rattle.block_forms.specs.Named.{places_that_set}
use Rattle.ssa_check.proofs.names.set_once.Given as goal

abbrev pub invariant-loop-n : goal.invariant-loop-n
invariant-loop-n l = (j : ℕ) → j < l.n → places_that_set l.blocks j ≤ 1
