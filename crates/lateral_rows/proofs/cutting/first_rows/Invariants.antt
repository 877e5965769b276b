use Rattle.std.proofs.Common.{◌≡◌, take, length}
use Rattle.lateral_rows.proofs.cutting.first_rows.Given as goal

abbrev pub invariant-loop-rows : goal.invariant-loop-rows
invariant-loop-rows l = take l.n l.rows ≡ take l.n l.fn.rows

abbrev pub decreases-loop-rows : goal.decreases-loop-rows
decreases-loop-rows l = length l.rows
