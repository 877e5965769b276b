use Rattle.std.proofs.Common.{◌≡◌, ℕ, ◌<◌}
use Rattle.block_forms.specs.Named.{places_that_set}
use Rattle.ssa_check.proofs.names.parameters_unset.Given as goal

abbrev pub invariant-loop-k : goal.invariant-loop-k
invariant-loop-k l = (j : ℕ) → j < l.k → places_that_set l.blocks j ≡ 0
