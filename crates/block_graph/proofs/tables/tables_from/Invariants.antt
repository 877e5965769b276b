use Rattle.std.proofs.Common.{◌≡◌, length}
use Rattle.block_graph.specs.Tables.{AreLiveTables}
use Rattle.block_graph.proofs.tables.tables_from.Given as goal

abbrev pub invariant-loop-slot : goal.invariant-loop-slot
invariant-loop-slot l = (length l.tables.items ≡ l.slot) × AreLiveTables l.blocks l.tables.items
