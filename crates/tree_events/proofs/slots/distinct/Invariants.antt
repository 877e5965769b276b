use Rattle.std.proofs.Common.{◌≡◌, take}
use Rattle.sql_meaning.specs.Reads.{first_occurrences}
use Rattle.tree_events.proofs.slots.distinct.Given as goal

abbrev pub invariant-loop-i : goal.invariant-loop-i
invariant-loop-i l = l.kept ≡ first_occurrences (take l.i l.list)
