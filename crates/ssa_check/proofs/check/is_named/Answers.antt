use Rattle.std.proofs.Common.{arith}
use Rattle.block_forms.proofs.Verdicts.{decided, passed, refuted}
use Rattle.ssa_check.proofs.check.is_named.Goals as goal

pub returns-then-not-blocks_renamed : goal.returns-then-not-blocks_renamed
returns-then-not-blocks_renamed c =
    refuted c.blocks_renamed.result c.if-not-blocks_renamed.true
    (rw (c.as_slice-4.ensures, c.as_slice-5.ensures, c.as_slice-6.ensures) at c.blocks_renamed.ensures) (λ m. m.blocks)

pub returns : goal.returns
returns c =
    decided c.all_edges_fed.result (rw (c.as_slice-9.ensures, c.as_slice-10.ensures) at c.all_edges_fed.ensures)
    (λ fed. record {
      as_many_blocks = omega (arith, c.len.ensures, c.len-2.ensures, c.if-len.false);
      names = passed c.names_of_slots.result c.if-not-names_of_slots.false c.names_of_slots.ensures;
      maps = passed c.maps_of_slots.result c.if-not-maps_of_slots.false (rw (c.as_slice.ensures, c.as_slice-2.ensures) at c.maps_of_slots.ensures);
      entry = passed c.entry_has_parameters.result c.if-not-entry_has_parameters.false (rw c.as_slice-3.ensures at c.entry_has_parameters.ensures);
      blocks = passed c.blocks_renamed.result c.if-not-blocks_renamed.false (rw (c.as_slice-4.ensures, c.as_slice-5.ensures, c.as_slice-6.ensures) at c.blocks_renamed.ensures);
      operands = passed c.operands_match.result c.if-not-operands_match.false (rw (c.as_slice-7.ensures, c.as_slice-8.ensures) at c.operands_match.ensures);
      edges = fed;
    })
    (λ m. m.edges)
