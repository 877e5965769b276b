use Rattle.std.proofs.Common.{◌≡◌, ◌-◌, ◌≤◌, length, drop}
use Rattle.away_lex.specs.Pieces.{plus, comment_len}
use Rattle.away_lex.proofs.pieces.comment_len.Given as goal

abbrev pub invariant-loop-at : goal.invariant-loop-at
invariant-loop-at l = (plus l.at (comment_len l.depth (drop l.at l.z)) ≡ comment_len 0 l.z) × (l.at ≤ length l.z) × (l.depth ≤ l.at)

abbrev pub decreases-loop-at : goal.decreases-loop-at
decreases-loop-at l = length l.z - l.at
