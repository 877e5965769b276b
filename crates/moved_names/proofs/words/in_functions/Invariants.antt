use Rattle.std.proofs.Common.{◌≡◌, drop}
use Rattle.std.specs.List.{list_any}
use Rattle.moved_names.specs.Words.{in_function}
use Rattle.moved_names.proofs.words.in_functions.Given as goal

abbrev pub invariant-loop-f : goal.invariant-loop-f
invariant-loop-f l = list_any (in_function l.n) l.fs ≡ list_any (in_function l.n) (drop l.f-index l.fs)
