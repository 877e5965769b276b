use Rattle.std.proofs.Common.{◌≡◌, drop}
use Rattle.std.specs.List.{list_any}
use Rattle.moved_names.specs.Words.{in_column}
use Rattle.moved_names.proofs.words.in_table.Given as goal

abbrev pub invariant-loop-c : goal.invariant-loop-c
invariant-loop-c l = list_any (in_column l.n) l.c-items ≡ list_any (in_column l.n) (drop l.c-index l.c-items)
