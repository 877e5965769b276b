use Rattle.std.proofs.Common.{length}
use Rattle.block_forms.proofs.Verdicts.{decided, passed, refuted}
use Rattle.call_check.proofs.Counting.{table_differs, differs_in_table}
use Rattle.call_check.proofs.check.check_merged.Goals as goal

pub returns-then-not-all_once : goal.returns-then-not-all_once
returns-then-not-all_once c =
    refuted c.all_once.result c.if-not-all_once.true (rw (c.as_slice-5.ensures, c.deref.ensures.value) at c.all_once.ensures)
    (λ m. differs_in_table (length c.args.anf.now.blocks) c.args.tail.now.labels _ (rw (c.len-2.ensures, c.as_slice-4.ensures) at c.in_ok-labels.ensures) m.labels_are_blocks m.labels_differ)

pub returns : goal.returns
returns c =
    decided c.others_merge.result c.others_merge.ensures
    (λ others. record {
      labels_differ = table_differs (length c.args.anf.now.blocks) c.args.tail.now.labels _ (rw (c.len-2.ensures, c.as_slice-4.ensures) at c.in_ok-labels.ensures)
          (passed c.all_below.result c.if-not-all_below.false (rw (c.len.ensures, c.as_slice.ensures) at c.all_below.ensures))
          (passed c.all_once.result c.if-not-all_once.false (rw (c.as_slice-5.ensures, c.deref.ensures.value) at c.all_once.ensures));
      labels_are_blocks = passed c.all_below.result c.if-not-all_below.false (rw (c.len.ensures, c.as_slice.ensures) at c.all_below.ensures);
      entry = passed c.stands_in.result c.if-not-stands_in.false (rw c.as_slice-2.ensures at c.stands_in.ensures);
      others = others;
      calls = passed c.all_call_blocks.result c.if-not-all_call_blocks.false (rw c.as_slice-3.ensures at c.all_call_blocks.ensures);
    })
    (λ m. m.others)
