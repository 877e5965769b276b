use Rattle.std.proofs.Common.{◌≤◌, length}
use Rattle.query_places.proofs.reading.pass_names.Given as goal

abbrev pub invariant-loop-tokens : goal.invariant-loop-tokens
invariant-loop-tokens l = length l.tokens ≤ length l.fn.tokens

abbrev pub decreases-loop-tokens : goal.decreases-loop-tokens
decreases-loop-tokens l = length l.tokens
