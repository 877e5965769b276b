use Rattle.std.proofs.Common.{◌≡◌, ◌++◌, map}
use Rattle.sql_meaning.specs.Template.{below}
use Rattle.select_into.specs.Entries.{pick_entry}
use Rattle.select_into.proofs.entries.push_picks.Given as goal

abbrev pub invariant-loop-place : goal.invariant-loop-place
invariant-loop-place l = l.list ≡ l.fn.list ++ map (pick_entry l.types l.s) (below l.place)
