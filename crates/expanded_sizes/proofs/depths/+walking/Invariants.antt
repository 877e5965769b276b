use Rattle.std.proofs.Common.{◌≡◌, take}
use Rattle.expanded_sizes.specs.Depths.{most_by}
use Rattle.expanded_sizes.specs.Walking.{depth_of, depth_of_arm, told}
use Rattle.expanded_sizes.proofs.depths.+walking.Given as goal

abbrev pub invariant-body_depth-loop-i : goal.invariant-body_depth-loop-i
invariant-body_depth-loop-i l = l.greatest ≡ told (most_by (depth_of l.g) (take l.i l.list))

abbrev pub invariant-arms_depth-loop-i : goal.invariant-arms_depth-loop-i
invariant-arms_depth-loop-i l = l.greatest ≡ told (most_by (depth_of_arm l.g) (take l.i l.list))
