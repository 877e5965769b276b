use Rattle.std.proofs.Common.{◌≡◌, drop}
use Rattle.std.specs.List.{list_any}
use Rattle.moved_names.specs.Seeking.{sought}
use Rattle.moved_names.proofs.sought.is_any_word.Given as goal

abbrev pub invariant-loop-m : goal.invariant-loop-m
invariant-loop-m l = list_any (sought l.s).word l.names ≡ list_any (sought l.s).word (drop l.m-index l.names)
