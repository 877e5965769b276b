use Rattle.std.proofs.Common.{◌≡◌, ◌++◌, replicate}
use Rattle.function_places.proofs.node_kinds.add_all.Given as goal

abbrev pub invariant-loop : goal.invariant-loop
invariant-loop l = l.list ≡ l.initial.list ++ replicate l.counter l.kind
