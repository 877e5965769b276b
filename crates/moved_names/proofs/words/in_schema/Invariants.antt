use Rattle.std.proofs.Common.{◌≡◌, drop}
use Rattle.std.specs.List.{list_any}
use Rattle.moved_names.specs.Words.{in_table}
use Rattle.moved_names.proofs.words.in_schema.Given as goal

abbrev pub invariant-loop-t : goal.invariant-loop-t
invariant-loop-t l = list_any (in_table l.n) l.t-items ≡ list_any (in_table l.n) (drop l.t-index l.t-items)
