use Rattle.std.proofs.Common.{◌≡◌, ◌++◌, take, flat_map}
use Rattle.select_into.specs.Entries.{into_entries}
use Rattle.block_forms.specs.Expressions.{sources, sources_of_arm}
use Rattle.block_forms.proofs.expressions.+sources.Given as goal

abbrev pub invariant-push_statements-loop-i : goal.invariant-push_statements-loop-i
invariant-push_statements-loop-i l = l.list ≡ l.fn.list ++ flat_map (sources (into_entries l.types)) (take l.i l.body)

abbrev pub invariant-push_arms-loop-i : goal.invariant-push_arms-loop-i
invariant-push_arms-loop-i l = l.list ≡ l.fn.list ++ flat_map (sources_of_arm (into_entries l.types)) (take l.i l.arms)
