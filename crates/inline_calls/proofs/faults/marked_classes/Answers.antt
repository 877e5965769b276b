use Rattle.std.proofs.Common.{◌∙◌, get_or, sym}
use Rattle.std.proofs.lemmas.Bool.{false≢true}
use Rattle.std.proofs.lemmas.Option.{slice_get-get_or}
use Rattle.inline_calls.proofs.FaultRules.{marked_skips, marked_takes, skips_here}
use Rattle.inline_calls.proofs.faults.marked_classes.Goals.{then-marks-b+in-Some+in_ok-add_class, then-marks-b+in_default, else-marks-b}
use Rattle.inline_calls.proofs.faults.marked_classes.Goals as goal

pub loop-b-preserved : goal.loop-b-preserved
loop-b-preserved c =
    let blocks = c.args.blocks.now in
    let marks = c.args.marks.now in
    let b = c.loop-b.b in
    elim c.if-marks-b.branch [
      | then-marks-b+in-Some+in_ok-add_class w ↦
          let y = w.index-blocks-b.result in
          rw w.classes-is (marked_takes blocks marks b c.loop-b.classes.items c.loop-b.invariant (get_or blocks b y) (slice_get-get_or blocks b y c.loop-b-test.true) w.in-Some.class w.add_class.new.classes.items
          w.if-marks-b.true (sym w.class_of.ensures ∙ w.in-Some.is) w.in_ok-add_class.ensures)
      | then-marks-b+in_default w ↦
          let y = w.index-blocks-b.result in
          rw w.classes-is (skips_here blocks marks b c.loop-b.classes.items c.loop-b.invariant (get_or blocks b y) (slice_get-get_or blocks b y c.loop-b-test.true)
          (sym w.class_of.ensures ∙ w.in_default.is))
      | else-marks-b w ↦ rw w.classes-is (marked_skips blocks marks b c.loop-b.classes.items c.loop-b.invariant (λ m. absurd (false≢true (sym w.if-marks-b.false ∙ m))))
    ]
