use Rattle.std.proofs.Common.{◌≡◌, drop}
use Rattle.std.specs.List.{list_any}
use Rattle.moved_names.specs.Seeking.{sought}
use Rattle.moved_names.specs.Words.{in_target}
use Rattle.moved_names.proofs.words.in_targets.Given as goal

abbrev pub invariant-loop-t : goal.invariant-loop-t
invariant-loop-t l = list_any (in_target (sought l.s)) l.targets ≡ list_any (in_target (sought l.s)) (drop l.t-index l.targets)
