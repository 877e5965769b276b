use Rattle.std.proofs.Common.{◌≡◌, ◌+◌, ◌-◌, OnOk, Some, None, drop, length, ap, sym, ◌∙◌, subst, length-drop}
use Rattle.std.proofs.lemmas.List.{drop_all}
use Rattle.away_trees.specs.declared.statements.LoopKind.TheVariants as kind
use Rattle.away_trees.specs.declared.statements.Stmt.TheVariants as stmt
use Rattle.block_forms.specs.Laid.{a_node}
use Rattle.goto_lower.specs.Building.{built_of, first_from, row_many, arms_many, head_at, loop_built}
use Rattle.goto_lower.specs.Drafts.{emitted, emitted_row, begun, tested, headed, inside}
use Rattle.goto_lower.specs.Enclosings.{frames_of}
use Rattle.goto_lower.specs.Whole.{finish}
use Rattle.goto_lower.proofs.BuildingEquations.{rows, arms_of}
use Rattle.goto_lower.proofs.BuildingRules.{emits_plain, emits_while, emits_count, emits_if_else, emits_cases_else}
use Rattle.goto_lower.proofs.Walk.{drop_here, row_keeps, row_ends, arms_keep, arms_ends}
use Rattle.goto_lower.proofs.statements.+build.Goals as goal

pub push_arms-loop-i-preserved : goal.push_arms-loop-i-preserved
push_arms-loop-i-preserved t c =
    let s = c.args.setting.now in
    let xs = c.args.arms.now in
    let i = c.loop-i.i in
    let x = c.index-arms-i.result in
    let rest = drop (i + 1) xs in
    let d = c.loop-i.draft in
    let L = length d.blocks in
    let many : c.in_ok-inside.inside ≡ row_many (rows s.numbers s.slots.now finish x.body) = c.in_ok-inside.ensures ∙ ap (λ ys. row_many (rows s.numbers s.slots.now finish ys)) c.as_slice.ensures in
    let start : c.in_ok-start.start ≡ L + 1 = c.in_ok-start.ensures ∙ ap (λ k. k + 1) c.in_ok-here.ensures in
    arms_keep s.numbers s.slots.now finish (drop i xs) rest x (frames_of c.args.flow.now.around.now) c.args.flow.now.next c.args.lack c.first_of-first.result c.first_of-other.result c.in_ok-behind.behind d c.push_test.new.draft c.push_row.new.draft _
    (drop_here xs i x c.loop-i-test.true c.index-arms-i.is)
    (c.first_of-first.ensures ∙ (λ j. first_from (many j) (start j) c.args.flow.now.next))
    (c.in_ok-behind.ensures ∙ (λ j. start j + many j))
    (c.first_of-other.ensures ∙ ap (λ k. first_from k c.in_ok-behind.behind c.args.lack) (sym (length-drop (i + 1) xs)))
    c.in_ok-push_test.ensures
    (c.in_ok-push_row.ensures ∙ ap (λ ys. emitted_row (rows s.numbers s.slots.now finish ys) (frames_of c.args.flow.now.around.now) c.args.flow.now.next c.push_test.new.draft) c.as_slice-in-loop-i.ensures)
    c.loop-i.invariant

pub push_arms-returns : goal.push_arms-returns
push_arms-returns t c =
    let s = c.args.setting.now in
    arms_ends s.numbers s.slots.now finish (drop c.loop-i.i c.args.arms.now) (frames_of c.args.flow.now.around.now) c.args.flow.now.next c.args.lack c.loop-i.draft _ (drop_all c.loop-i.i c.args.arms.now c.loop-i-test.false) c.loop-i.invariant

pub push_row-loop-i-preserved : goal.push_row-loop-i-preserved
push_row-loop-i-preserved t c =
    let s = c.args.setting.now in
    let xs = c.args.body.now in
    let i = c.loop-i.i in
    let x = c.index-body-i.result in
    let d = c.loop-i.draft in
    let around = frames_of c.args.flow.now.around.now in
    let next = c.args.flow.now.next in
    let behind : c.in_ok-behind.behind ≡ length d.blocks + (built_of s.numbers s.slots.now finish x).many = c.in_ok-behind.ensures ∙ (λ j. c.in_ok-here-2.ensures j + c.in_ok-statement_many.ensures j) in
    row_keeps s.numbers s.slots.now finish (drop i xs) (drop (i + 1) xs) x around next c.following-next.result c.in_ok-end.end d c.push_statement.new.draft _
    (drop_here xs i x c.loop-i-test.true c.index-body-i.is)
    (λ m h. c.following-next.ensures m (h ∙ ap (λ z. z + m) (sym behind)) ∙ ap (λ z. first_from m z next) behind)
    c.in_ok-push_statement.ensures
    c.loop-i.invariant

pub push_row-returns : goal.push_row-returns
push_row-returns t c =
    let s = c.args.setting.now in
    row_ends s.numbers s.slots.now finish (drop c.loop-i.i c.args.body.now) (frames_of c.args.flow.now.around.now) c.args.flow.now.next c.in_ok-end.end c.loop-i.draft _ (drop_all c.loop-i.i c.args.body.now c.loop-i-test.false) c.loop-i.invariant

pub push_loop-returns-in_ok-again-in-Plain : goal.push_loop-returns-in_ok-again-in-Plain
push_loop-returns-in_ok-again-in-Plain t c =
    let s = c.args.setting.now in
    let d = c.args.draft.now in
    let around = frames_of c.args.flow.now.around.now in
    let next = c.args.flow.now.next in
    let ys = rows s.numbers s.slots.now finish c.args.body.now in
    let again = c.in_ok-again-in-Plain.again in
    let made : inside ys c.args.label.now around next again c.push_head.new.draft ≡ emitted (loop_built s.numbers c.args.label.now c.args.kind.now ys) around next d =
    ap (λ e. inside ys c.args.label.now around next again e) (c.in_ok-again-in-Plain.ensures.pushed ∙ ap (λ m. headed None m next d) c.in_ok-many.ensures)
    ∙ emits_plain s.numbers s.slots.now finish around next d c.args.label.now c.args.body.now again c.in_ok-again-in-Plain.ensures.number
    ∙ ap (λ k. emitted (loop_built s.numbers c.args.label.now k ys) around next d) (sym c.in-Plain.is) in
    subst (λ e. OnOk c.push_inside.result (c.push_inside.new.draft ≡ e)) made c.push_inside.ensures

pub push_loop-returns-in_ok-again-in-While : goal.push_loop-returns-in_ok-again-in-While
push_loop-returns-in_ok-again-in-While t c =
    let s = c.args.setting.now in
    let d = c.args.draft.now in
    let around = frames_of c.args.flow.now.around.now in
    let next = c.args.flow.now.next in
    let ys = rows s.numbers s.slots.now finish c.args.body.now in
    let again = c.in_ok-again-in-While.again in
    let made : inside ys c.args.label.now around next again c.push_head-in-While.new.draft ≡ emitted (loop_built s.numbers c.args.label.now c.args.kind.now ys) around next d =
    ap (λ e. inside ys c.args.label.now around next again e) (c.in_ok-again-in-While.ensures.pushed ∙ ap (λ m. headed (Some c.in-While.test) m next d) c.in_ok-many.ensures)
    ∙ emits_while s.numbers s.slots.now finish around next d c.args.label.now c.in-While.test c.args.body.now again c.in_ok-again-in-While.ensures.number
    ∙ ap (λ k. emitted (loop_built s.numbers c.args.label.now k ys) around next d) (sym c.in-While.is) in
    subst (λ e. OnOk c.push_inside-in-While.result (c.push_inside-in-While.new.draft ≡ e)) made c.push_inside-in-While.ensures

pub push_loop-returns-in_ok-push_count-in-Count : goal.push_loop-returns-in_ok-push_count-in-Count
push_loop-returns-in_ok-push_count-in-Count t c =
    let s = c.args.setting.now in
    let n = s.numbers in
    let d = c.args.draft.now in
    let around = frames_of c.args.flow.now.around.now in
    let next = c.args.flow.now.next in
    let label = c.args.label.now in
    let ys = rows n s.slots.now finish c.args.body.now in
    let k = c.in-Count in
    let again = c.in_ok-again-in-Count.again in
    let begin = c.first_of-begin.result in
    let head : c.in_ok-head-in-Count.head ≡ head_at k.step (length d.blocks) = c.in_ok-head-in-Count.ensures ∙ ap (λ z. head_at k.step z) c.in_ok-here-in-Count.ensures in
    let again_is : again ≡ head_at k.step (length d.blocks) + 1 + 1 = c.in_ok-again-in-Count.ensures ∙ ap (λ z. z + 1) (c.in_ok-sum-in-Count.ensures ∙ ap (λ z. z + 1) head) in
    let begin_is : begin ≡ first_from (row_many ys) (head_at k.step (length d.blocks) + 4) again =
    c.first_of-begin.ensures ∙ (λ j. first_from (c.in_ok-many.ensures j) ((c.in_ok-sum-in-Count-2.ensures ∙ ap (λ z. z + 4) head) j) again) in
    let made : inside ys label around next again c.push_count.new.draft ≡ emitted (loop_built n label c.args.kind.now ys) around next d =
    ap (λ e. inside ys label around next again e) c.in_ok-push_count-in-Count.ensures
    ∙ emits_count n s.slots.now finish around next d label k.var k.reverse k.first k.last k.step c.args.body.now again begin again_is begin_is
    ∙ ap (λ z. emitted (loop_built n label z ys) around next d) (sym c.in-Count.is) in
    subst (λ e. OnOk c.push_inside-in-Count.result (c.push_inside-in-Count.new.draft ≡ e)) made c.push_inside-in-Count.ensures

pub push_statement-returns-in_ok-push_tests-in-Some-other : goal.push_statement-returns-in_ok-push_tests-in-Some-other
push_statement-returns-in_ok-push_tests-in-Some-other t c =
    let s = c.args.setting.now in
    let n = s.numbers in
    let slots = s.slots.now in
    let d = c.args.draft.now in
    let around = frames_of c.args.flow.now.around.now in
    let next = c.args.flow.now.next in
    let arms = c.in-If.arms in
    let body = c.in-Some-other.body in
    let first = c.in_ok-first-in-Some-other.first in
    let first_is : first ≡ first_from (row_many (rows n slots finish body)) (length d.blocks + arms_many (arms_of n slots finish arms)) next =
    c.in_ok-first-in-Some-other.ensures ∙ (λ j. first_from (row_many (rows n slots finish (c.as_slice-in-Some-other-2.ensures j))) (length d.blocks + arms_many (arms_of n slots finish (c.as_slice-in-Some-other.ensures j))) next) in
    let tests_are : c.push_tests-in-Some-other.new.draft ≡ tested (arms_of n slots finish arms) around next first d =
    c.in_ok-push_tests-in-Some-other.ensures ∙ ap (λ xs. tested (arms_of n slots finish xs) around next first d) c.as_slice-in-Some-other-3.ensures in
    let made : emitted_row (rows n slots finish c.as_slice-in-Some-other-4.result.now) around next (begun a_node first c.push_tests-in-Some-other.new.draft) ≡ emitted (built_of n slots finish c.args.s.now) around next d =
    (λ j. emitted_row (rows n slots finish (c.as_slice-in-Some-other-4.ensures j)) around next (begun a_node first (tests_are j)))
    ∙ emits_if_else n slots finish around next d arms body first first_is
    ∙ ap (λ o. emitted (built_of n slots finish (stmt.If arms o)) around next d) (sym c.in-Some-other.is)
    ∙ ap (λ x. emitted (built_of n slots finish x) around next d) (sym c.in-If.is) in
    subst (λ e. OnOk c.push_other.result (c.push_other.new.draft ≡ e)) made c.push_other.ensures

pub push_statement-returns-in_ok-push_tests-in-Some-other-2 : goal.push_statement-returns-in_ok-push_tests-in-Some-other-2
push_statement-returns-in_ok-push_tests-in-Some-other-2 t c =
    let s = c.args.setting.now in
    let n = s.numbers in
    let slots = s.slots.now in
    let d = c.args.draft.now in
    let around = frames_of c.args.flow.now.around.now in
    let next = c.args.flow.now.next in
    let arms = c.in-Cases.arms in
    let body = c.in-Some-other-2.body in
    let first = c.in_ok-first-in-Some-other-2.first in
    let first_is : first ≡ first_from (row_many (rows n slots finish body)) (length d.blocks + arms_many (arms_of n slots finish arms)) next =
    c.in_ok-first-in-Some-other-2.ensures ∙ (λ j. first_from (row_many (rows n slots finish (c.as_slice-in-Some-other-2-3.ensures j))) (length d.blocks + arms_many (arms_of n slots finish (c.as_slice-in-Some-other-2-2.ensures j))) next) in
    let tests_are : c.push_tests-in-Some-other-2.new.draft ≡ tested (arms_of n slots finish arms) around next first d =
    c.in_ok-push_tests-in-Some-other-2.ensures ∙ ap (λ xs. tested (arms_of n slots finish xs) around next first d) c.as_slice-in-Some-other-2-4.ensures in
    let made : emitted_row (rows n slots finish c.as_slice-in-Some-other-2-5.result.now) around next (begun a_node first c.push_tests-in-Some-other-2.new.draft) ≡ emitted (built_of n slots finish c.args.s.now) around next d =
    (λ j. emitted_row (rows n slots finish (c.as_slice-in-Some-other-2-5.ensures j)) around next (begun a_node first (tests_are j)))
    ∙ emits_cases_else n slots finish around next d arms body first first_is
    ∙ ap (λ o. emitted (built_of n slots finish (stmt.Cases arms o)) around next d) (sym c.in-Some-other-2.is)
    ∙ ap (λ x. emitted (built_of n slots finish x) around next d) (sym c.in-Cases.is) in
    subst (λ e. OnOk c.push_other-in-Some-other-2.result (c.push_other-in-Some-other-2.new.draft ≡ e)) made c.push_other-in-Some-other-2.ensures
