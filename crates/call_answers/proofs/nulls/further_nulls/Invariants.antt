use Rattle.std.proofs.Common.{◌≡◌, drop, length}
use Rattle.call_answers.specs.Walking.{nulls_from}
use Rattle.call_answers.proofs.nulls.further_nulls.Given as goal

abbrev pub invariant-loop-i : goal.invariant-loop-i
invariant-loop-i l = drop l.i l.links ≡ nulls_from l.slot (length (drop l.i l.links)) → l.links ≡ nulls_from l.from (length l.links)
