use Rattle.std.proofs.Common.{◌≡◌, ◌++◌, drop, map}
use Rattle.sql_meaning.specs.Trees.{item}
use Rattle.inline_calls.proofs.starts.add_copies.Given as goal

abbrev pub invariant-loop-e : goal.invariant-loop-e
invariant-loop-e l = l.list ++ map item (drop l.e-index l.es) ≡ l.initial.list ++ map item l.es
