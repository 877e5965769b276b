use Rattle.std.proofs.Common.{◌≡◌, drop}
use Rattle.tail_rec.specs.Callers.{with_ends, callers_of}
use Rattle.tail_rec.proofs.callers.callers_of.Given as goal

abbrev pub invariant-loop-block : goal.invariant-loop-block
invariant-loop-block l = with_ends (drop l.block-index l.blocks) l.table.items ≡ callers_of l.blocks
