use Rattle.std.proofs.Common.{◌≡◌, drop}
use Rattle.block_forms.specs.Laid.{after, row_size, arms_size, laid_row, laid_arms}
use Rattle.goto_lower.proofs.sizes.+size.Given as goal

abbrev pub invariant-size_of_row-loop-i : goal.invariant-size_of_row-loop-i
invariant-size_of_row-loop-i l = after l.total (row_size (laid_row (drop l.i l.list))) ≡ row_size (laid_row l.list)

abbrev pub invariant-size_of_arms-loop-i : goal.invariant-size_of_arms-loop-i
invariant-size_of_arms-loop-i l = after l.total (arms_size (laid_arms (drop l.i l.list))) ≡ arms_size (laid_arms l.list)
