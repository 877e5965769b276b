use Rattle.std.proofs.Common.{◌≡◌, ◌++◌, drop, map}
use Rattle.call_expand.specs.Moving.{moved_target}
use Rattle.call_expand.proofs.heads.moved_targets.Given as goal

abbrev pub invariant-loop-t : goal.invariant-loop-t
invariant-loop-t l = l.all ++ map (moved_target l.names l.seen) (drop l.t-index l.targets) ≡ map (moved_target l.names l.seen) l.targets
