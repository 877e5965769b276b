use Rattle.std.proofs.Common.{◌≤◌, length}
use Rattle.query_places.proofs.reading.pass_selects.Given as goal

abbrev pub invariant-loop-alloc : goal.invariant-loop-alloc
invariant-loop-alloc l = length l.tokens ≤ length l.fn.tokens

abbrev pub decreases-loop-alloc : goal.decreases-loop-alloc
decreases-loop-alloc l = length l.tokens
