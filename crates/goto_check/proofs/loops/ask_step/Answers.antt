use Rattle.std.proofs.Common.{◌≡◌, false, [], ◌∷◌, ◌++◌, sym, ap, ◌∙◌}
use Rattle.plsql_meaning.specs.Outcomes.{invalid_parameter}
use Rattle.block_forms.specs.Patterns.{own, shared, branches, fails, yes_of, no_of, jump_of, bound_parts, step_parts, not_positive}
use Rattle.goto_check.specs.Asking.{numbers_in}
use Rattle.goto_check.specs.AnswerRuns.{answer_run}
use Rattle.goto_check.specs.Wanted.{wanted}
use Rattle.goto_check.proofs.AnswerRules.{two}
use Rattle.goto_check.proofs.loops.ask_step.Goals as goal

pub returns-in-Some : goal.returns-in-Some
returns-in-Some c =
    let n = (numbers_in c.args.a.now) in
    let g = c.args.a.now.goto.now in
    let test = c.no_of-test.result in
    let fault = c.yes_of-fault.result in
    let at_test : test ≡ no_of g (jump_of g c.args.b) = c.no_of-test.ensures ∙ ap (λ b. no_of g b) c.jump_of.ensures in
    let at_fault : fault ≡ yes_of g (no_of g (jump_of g c.args.b)) = c.yes_of-fault.ensures ∙ ap (λ b. yes_of g b) at_test in
    let B = bound_parts g n c.args.b c.args.step (wanted c.source_term.result) test in
    let positive = wanted c.entry_term-not_positive.result in
    let at_positive : positive ≡ not_positive n.fixed c.args.step = c.entry_term-not_positive.ensures in
    let O = own test (branches false positive fault c.args.head) in
    let F = shared fault (fails invalid_parameter) in
    two c.args.a.now B (O ∷ F ∷ []) _ _ _ c.ask_bound.ensures (two c.args.a.now (O ∷ []) (F ∷ []) _ _ _ c.ask_own-in-Some.ensures c.ask_shared.ensures c.join.ensures) c.join-in-Some.ensures
    ∙ ((λ i. answer_run c.args.a.now (bound_parts g n c.args.b c.args.step (c.source_term.ensures i) (at_test i) ++ (own (at_test i) (branches false (at_positive i) (at_fault i) c.args.head) ∷ shared (at_fault i) (fails invalid_parameter) ∷ [])))
    ∙ ap (λ o. answer_run c.args.a.now (step_parts g n o c.args.expr c.args.b c.args.step c.args.head)) (sym c.in-Some.is))
