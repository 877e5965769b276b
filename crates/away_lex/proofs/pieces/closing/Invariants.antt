use Rattle.std.proofs.Common.{◌≡◌, ◌-◌, ◌≤◌, length, drop}
use Rattle.away_lex.specs.Pieces.{plus, closing}
use Rattle.away_lex.proofs.pieces.closing.Given as goal

abbrev pub invariant-loop-at : goal.invariant-loop-at
invariant-loop-at l = (plus l.at (closing (drop l.at l.z)) ≡ closing l.z) × (l.at ≤ length l.z)

abbrev pub decreases-loop-at : goal.decreases-loop-at
decreases-loop-at l = length l.z - l.at
