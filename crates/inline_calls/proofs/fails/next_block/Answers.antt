use Rattle.std.proofs.Common.{get_or, sym, ◌∙◌, arith}
use Rattle.std.proofs.lemmas.Bool.{false≢true}
use Rattle.std.proofs.lemmas.Option.{slice_get-get_or}
use Rattle.inline_calls.proofs.Marking.{closed_more, next_of, none_at}
use Rattle.inline_calls.proofs.FailRules.{got_inside}
use Rattle.inline_calls.proofs.fails.next_block.Goals.{then-marks-b+in_default, else-marks-b}
use Rattle.inline_calls.proofs.fails.next_block.Goals as goal

pub returns-in-Some-clause-some : goal.returns-in-Some-clause-some
returns-in-Some-clause-some c =
    let blocks = c.args.blocks.now in
    let y = c.index-blocks-b.result in
    next_of blocks c.args.marks.now c.loop-b.b c.in-Some.c (get_or blocks c.loop-b.b y) (slice_get-get_or blocks c.loop-b.b y c.loop-b-test.true) c.if-marks-b.true
    (sym c.new_target.ensures ∙ c.in-Some.is)

pub loop-b-preserved : goal.loop-b-preserved
loop-b-preserved c =
    closed_more c.args.blocks.now c.args.marks.now c.loop-b.b c.loop-b.invariant
    (λ m. elim c.if-marks-b.branch [
      | then-marks-b+in_default w ↦ none_at c.args.blocks.now c.args.marks.now c.loop-b.b w.index-blocks-b.result c.loop-b-test.true (sym w.new_target.ensures ∙ w.in_default.is)
      | else-marks-b w ↦ absurd (false≢true (sym w.if-marks-b.false ∙ m))
    ])

pub returns-clause-none : goal.returns-clause-none
returns-clause-none c none to m inside =
    let lt = got_inside c.args.blocks.now m.number m.block m.is in
    let past = c.loop-b-test.false in
    c.loop-b.invariant to m (omega (arith, lt, past)) inside
