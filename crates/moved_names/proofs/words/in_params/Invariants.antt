use Rattle.std.proofs.Common.{◌≡◌, drop}
use Rattle.std.specs.List.{list_any}
use Rattle.moved_names.specs.Words.{in_param}
use Rattle.moved_names.proofs.words.in_params.Given as goal

abbrev pub invariant-loop-p : goal.invariant-loop-p
invariant-loop-p l = list_any (in_param l.n) l.params ≡ list_any (in_param l.n) (drop l.p-index l.params)
