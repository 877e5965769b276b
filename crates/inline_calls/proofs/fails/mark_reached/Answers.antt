use Rattle.std.proofs.Common.{List, sym, ◌∙◌, subst, arith}
use Rattle.block_forms.specs.declared.forms.Block.{Block}
use Rattle.inline_calls.specs.Marks.{IsSpread}
use Rattle.inline_calls.proofs.FailRules.{AtEntry, are_reached, entry_marked, entry_outside}
use Rattle.inline_calls.proofs.fails.mark_reached.Goals.{then-goto-marks, else-goto-marks}
use Rattle.inline_calls.proofs.fails.mark_reached.Goals as goal

pub returns : goal.returns
returns c =
    let goto = c.args.goto.now in
    let start = c.if-goto-marks.marks in
    let none = c.args.marks.now in
    let at : AtEntry goto.blocks goto.entry start = elim c.if-goto-marks.branch [
      | then-goto-marks w ↦ entry_marked goto.blocks goto.entry none start c.requires w.if-goto-marks.true (w.marks-is ∙ w.mark.ensures)
      | else-goto-marks w ↦ subst (AtEntry goto.blocks goto.entry) (sym w.marks-is)
          (entry_outside goto.blocks goto.entry none c.requires (λ lt. let past = w.if-goto-marks.false in omega (arith, lt, past)))
    ] in
    let spread = subst (λ (bs : List Block). IsSpread bs start c.spread.new.marks) c.as_slice.ensures c.spread.ensures in
    are_reached goto start c.spread.new.marks at spread
