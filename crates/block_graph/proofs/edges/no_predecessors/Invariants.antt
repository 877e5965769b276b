use Rattle.std.proofs.Common.{◌≡◌, ℕ, [], length, get_or}
use Rattle.block_graph.proofs.edges.no_predecessors.Given as goal

abbrev pub invariant-loop-block : goal.invariant-loop-block
invariant-loop-block l = (length l.lists.items ≡ l._block) × ((c : ℕ) → get_or l.lists.items c [] ≡ [])
