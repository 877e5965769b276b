use Rattle.std.proofs.Common.{◌+◌, ◌*◌}
use Rattle.turn_bodies.proofs.labels.+counts.Given as goal

abbrev pub decreases-left_of : goal.decreases-left_of
decreases-left_of l = 2 * l.depth

abbrev pub decreases-left_behind : goal.decreases-left_behind
decreases-left_behind l = 2 * l.depth + 1
