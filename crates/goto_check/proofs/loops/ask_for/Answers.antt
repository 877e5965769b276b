use Rattle.std.proofs.Common.{◌≡◌, ◌+◌, ◌*◌, ◌++◌, ap, ◌∙◌}
use Rattle.block_forms.specs.Patterns.{node, after_bound, head_after, for_head, bound_parts, step_parts, turn_parts}
use Rattle.goto_check.specs.Asking.{numbers_in}
use Rattle.goto_check.specs.AnswerRuns.{answer_run}
use Rattle.goto_check.specs.Wanted.{wanted}
use Rattle.goto_check.proofs.AnswerRules.{two}
use Rattle.goto_check.proofs.loops.ask_for.Goals as goal

pub returns : goal.returns
returns c =
    let n = (numbers_in c.args.a.now) in
    let g = c.args.a.now.goto.now in
    let cur = n.counters + 3 * c.args.p.fors in
    let first = c.node-set_first.result in
    let last = c.after_bound-set_last.result in
    let step = c.after_bound-set_step.result in
    let head = c.head_after-head.result in
    let at_last : last ≡ after_bound g (node g c.args.p.node) = c.after_bound-set_last.ensures ∙ ap (λ b. after_bound g b) c.node-set_first.ensures in
    let at_step : step ≡ after_bound g (after_bound g (node g c.args.p.node)) = c.after_bound-set_step.ensures ∙ ap (λ b. after_bound g b) at_last in
    let at_head : head ≡ for_head g c.args.by.now (node g c.args.p.node) = c.head_after-head.ensures ∙ ap (λ b. head_after g c.args.by.now b) at_step in
    let P1 = bound_parts g n first cur (wanted c.source_term-from.result) last in
    let P2 = bound_parts g n last (cur + 1) (wanted c.source_term-to.result) step in
    let P3 = step_parts g n c.args.by.now (c.args.p.expr + 2) step (cur + 2) head in
    let P4 = turn_parts g n c.args.reverse c.args.p.slot cur (cur + 1) (cur + 2) head c.for_test-test.result c.args.body c.args.next in
    two c.args.a.now P1 (P2 ++ (P3 ++ P4)) _ _ _ c.ask_bound.ensures (two c.args.a.now P2 (P3 ++ P4) _ _ _ c.ask_bound-2.ensures (two c.args.a.now P3 P4 _ _ _ c.ask_step.ensures c.ask_turn.ensures c.join.ensures) c.join-2.ensures) c.join-3.ensures
    ∙ (λ i. answer_run c.args.a.now (bound_parts g n (c.node-set_first.ensures i) cur (c.source_term-from.ensures i) (at_last i)
    ++ (bound_parts g n (at_last i) (cur + 1) (c.source_term-to.ensures i) (at_step i)
    ++ (step_parts g n c.args.by.now (c.args.p.expr + 2) (at_step i) (cur + 2) (at_head i)
    ++ turn_parts g n c.args.reverse c.args.p.slot cur (cur + 1) (cur + 2) (at_head i) (c.for_test-test.ensures i) c.args.body c.args.next))))
