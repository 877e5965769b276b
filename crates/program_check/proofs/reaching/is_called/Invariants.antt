use Rattle.std.proofs.Common.{◌≡◌, length}
use Rattle.program_check.specs.Reaching.{is_called}
use Rattle.program_check.proofs.reaching.is_called.Given as goal

abbrev pub invariant-loop-rows : goal.invariant-loop-rows
invariant-loop-rows l = is_called l.table l.marks l.g ≡ is_called l.rows l.rest l.g

abbrev pub decreases-loop-rows : goal.decreases-loop-rows
decreases-loop-rows l = length l.rows
