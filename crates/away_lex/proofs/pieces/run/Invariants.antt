use Rattle.std.proofs.Common.{◌≡◌, ◌+◌, ◌-◌, ◌≤◌, ◌<◌, length, drop, get_or, true}
use Rattle.std.specs.List.{prefix_len}
use Rattle.away_lex.specs.Pieces.{is_in}
use Rattle.away_lex.proofs.pieces.run.Given as goal

abbrev pub invariant-loop-end : goal.invariant-loop-end
invariant-loop-end l =
    (l.end + prefix_len (is_in l.class) (drop l.end l.z) ≡ prefix_len (is_in l.class) l.z) × (l.end ≤ length l.z) × (0 < l.end → is_in l.class (get_or l.z (l.end - 1) 0) ≡ true)

abbrev pub decreases-loop-end : goal.decreases-loop-end
decreases-loop-end l = length l.z - l.end
