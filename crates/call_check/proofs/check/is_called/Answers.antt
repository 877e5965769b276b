use Rattle.std.proofs.Common.{arith}
use Rattle.block_forms.proofs.Verdicts.{decided, passed, refuted}
use Rattle.call_check.proofs.check.is_called.Goals as goal

pub returns-then-not-blocks_called : goal.returns-then-not-blocks_called
returns-then-not-blocks_called c =
    refuted c.blocks_called.result c.if-not-blocks_called.true
    (rw (c.as_slice-3.ensures, c.as_slice-4.ensures) at c.blocks_called.ensures) (λ m. m.blocks)

pub returns : goal.returns
returns c =
    decided c.entry_parameters.result c.entry_parameters.ensures
    (λ entry. record {
      as_many_blocks = omega (arith, c.len.ensures, c.len-2.ensures, c.if-len.false);
      parameters = passed c.all_have_parameters.result c.if-not-all_have_parameters.false (rw (c.len-3.ensures, c.as_slice.ensures) at c.all_have_parameters.ensures);
      reads = passed c.all_read_own.result c.if-not-all_read_own.false (rw c.as_slice-2.ensures at c.all_read_own.ensures);
      blocks = passed c.blocks_called.result c.if-not-blocks_called.false (rw (c.as_slice-3.ensures, c.as_slice-4.ensures) at c.blocks_called.ensures);
      entry = entry;
    })
    (λ m. m.entry)
