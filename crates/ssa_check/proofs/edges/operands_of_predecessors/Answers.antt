use Rattle.block_forms.proofs.Verdicts.{decided, passed, refuted}
use Rattle.ssa_check.proofs.edges.operands_of_predecessors.Goals as goal

pub returns-then-not-of_predecessors : goal.returns-then-not-of_predecessors
returns-then-not-of_predecessors c =
    refuted c.of_predecessors.result c.if-not-of_predecessors.true (rw c.as_slice.ensures at c.of_predecessors.ensures) (λ m. m.of_predecessors)

pub returns : goal.returns
returns c =
    decided c.keys_differ.result (rw c.as_slice-3.ensures at c.keys_differ.ensures)
    (λ differ. record {
      blocks_differ = differ;
      of_predecessors = passed c.of_predecessors.result c.if-not-of_predecessors.false (rw c.as_slice.ensures at c.of_predecessors.ensures);
      of_each = passed c.of_each_predecessor.result c.if-not-of_each_predecessor.false (rw c.as_slice-2.ensures at c.of_each_predecessor.ensures);
    })
    (λ m. m.blocks_differ)
