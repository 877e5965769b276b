use Rattle.std.proofs.Common.{◌==◌, refl, string_bytes}
use Rattle.function_places.proofs.HintSteps.{all_told, next_kept, next_told}
use Rattle.function_places.proofs.hints.told_over.Goals as goal
use Rattle.function_places.proofs.hints.told_over.Goals.{else-branch, then-branch+in_ok-push_label}

pub returns-then-left-eq0 : goal.returns-then-left-eq0
returns-then-left-eq0 c = all_told c.args.entries.now c.loop-entry.entry-index c.args.ended c.loop-entry.left (string_bytes c.loop-entry.text) c.loop-entry.invariant

pub loop-entry-preserved : goal.loop-entry-preserved
loop-entry-preserved c = elim c.if-branch.branch [
  | then-branch+in_ok-push_label w ↦
      rw (w.text-is, w.left-is)
      (next_told c.args.entries.now c.loop-entry.entry-index _ c.args.ended (c.loop-entry.left == 5) c.loop-entry.left (string_bytes c.loop-entry.text) (string_bytes w.push_label.new.text) c.loop-entry-test.true
      c.if-left-eq0.false refl c.loop-entry.invariant w.in_ok-push_label.ensures)
  | else-branch w ↦
      rw (w.text-is, w.left-is)
      (next_kept c.args.entries.now c.loop-entry.entry-index c.args.ended c.loop-entry.left (string_bytes c.loop-entry.text) c.loop-entry-test.true c.loop-entry.invariant)
]
