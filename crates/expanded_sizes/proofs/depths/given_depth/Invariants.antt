use Rattle.std.proofs.Common.{◌≡◌, take}
use Rattle.expanded_sizes.specs.Depths.{expr_depth, most_by}
use Rattle.expanded_sizes.proofs.depths.given_depth.Given as goal

abbrev pub invariant-loop-i : goal.invariant-loop-i
invariant-loop-i l = l.greatest ≡ most_by expr_depth (take l.i l.args)
