use Rattle.std.proofs.Common.{◌≡◌, ◌++◌, drop, map}
use Rattle.sql_meaning.specs.Trees.{item}
use Rattle.inline_calls.specs.Judged.{asked}
use Rattle.inline_calls.proofs.judged.add_asked.Given as goal

abbrev pub invariant-loop-e : goal.invariant-loop-e
invariant-loop-e l = l.list ++ map item (asked l.left (drop l.e-index l.es)) ≡ l.initial.list ++ map item (asked l.types l.es)
