use Rattle.std.proofs.Common.{◌≡◌, ◌-◌, ◌≤◌, length, drop}
use Rattle.away_lex.specs.Pieces.{plus, place_of}
use Rattle.away_lex.proofs.pieces.place_of.Given as goal

abbrev pub invariant-loop-at : goal.invariant-loop-at
invariant-loop-at l = (plus l.at (place_of l.mark (drop l.at l.z)) ≡ place_of l.mark l.z) × (l.at ≤ length l.z)

abbrev pub decreases-loop-at : goal.decreases-loop-at
decreases-loop-at l = length l.z - l.at
