use Rattle.std.proofs.Common.{◌≡◌, ◌-◌, ◌≤◌, ◌+◌, length, drop}
use Rattle.away_lex.specs.Pieces.{undoubled, has_no_zero}
use Rattle.away_lex.proofs.pieces.is_text.Given as goal

abbrev pub invariant-loop-at : goal.invariant-loop-at
invariant-loop-at l = (has_no_zero (undoubled (drop l.at l.inside)) ≡ has_no_zero (undoubled l.inside)) × (l.len + length (undoubled (drop l.at l.inside)) ≡ length (undoubled l.inside)) × (l.len ≤ l.at) × (l.at ≤ length l.inside)

abbrev pub decreases-loop-at : goal.decreases-loop-at
decreases-loop-at l = length l.inside - l.at
