use Rattle.std.proofs.Common.{◌≡◌, false, [], ◌∷◌, sym, ap, ◌∙◌}
use Rattle.plsql_meaning.specs.Outcomes.{no_data_found, too_many_rows}
use Rattle.block_forms.specs.Patterns.{own, shared, branches, fails, yes_of, no_of, check_parts}
use Rattle.goto_check.specs.Asking.{numbers_in}
use Rattle.goto_check.specs.AnswerRuns.{answer_run}
use Rattle.goto_check.specs.Wanted.{wanted}
use Rattle.goto_check.proofs.AnswerRules.{two}
use Rattle.goto_check.proofs.targets.ask_checks.Goals as goal

pub returns-then-strict : goal.returns-then-strict
returns-then-strict c =
    let a = c.args.a.now in
    let g = a.goto.now in
    let b = c.args.b in
    let fault = c.yes_of-no_row.result in
    let test = c.no_of-test.result in
    let rows = c.yes_of-rows.result in
    let at_rows : rows ≡ yes_of g (no_of g b) = c.yes_of-rows.ensures ∙ ap (λ b. yes_of g b) c.no_of-test.ensures in
    let O = own b (branches false (wanted c.select_term-none.result) fault test) in
    let F = shared fault (fails no_data_found) in
    let P = own test (branches false (wanted c.select_term-more.result) rows c.args.first) in
    let R = shared rows (fails too_many_rows) in
    two a (O ∷ []) (F ∷ P ∷ R ∷ []) _ _ _ c.ask_own.ensures
    (two a (F ∷ []) (P ∷ R ∷ []) _ _ _ c.ask_shared.ensures
    (two a (P ∷ []) (R ∷ []) _ _ _ c.ask_own-then-strict.ensures c.ask_shared-then-strict.ensures c.join.ensures) c.join-then-strict.ensures) c.join-then-strict-2.ensures
    ∙ ((λ i. answer_run a (own b (branches false (c.select_term-none.ensures i) (c.yes_of-no_row.ensures i) (c.no_of-test.ensures i))
    ∷ shared (c.yes_of-no_row.ensures i) (fails no_data_found)
    ∷ own (c.no_of-test.ensures i) (branches false (c.select_term-more.ensures i) (at_rows i) c.args.first)
    ∷ shared (at_rows i) (fails too_many_rows)
    ∷ []))
    ∙ ap (λ s. answer_run a (check_parts g (numbers_in a) s b c.args.expr c.args.query.now c.args.first)) (sym c.if-strict.true))
