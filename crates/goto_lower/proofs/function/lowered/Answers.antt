use Rattle.std.proofs.Common.{◌≡◌, true, false, [], length, ap, ◌∙◌}
use Rattle.goto_lower.specs.Building.{built_of, first_from}
use Rattle.goto_lower.specs.Drafts.{emitted, begun_params, pushed}
use Rattle.goto_lower.specs.Whole.{finish, body_of, body_start}
use Rattle.goto_lower.proofs.WholeWalk.{whole_is}
use Rattle.goto_lower.proofs.function.lowered.Goals as goal
use Rattle.goto_lower.proofs.function.lowered.Goals.{then-f, else-f}

pub returns : goal.returns
returns c =
    let f = c.args.f.now in
    let slots = c.args.slots.now in
    let n = c.in_ok-numbers.ensures in
    let body = c.first_of-body.result in
    let tests = c.if-f.tests in
    let strict : f.strict ≡ true → tests ≡ length f.params = (λ h. elim c.if-f.branch [ then-f w ↦ w.tests-is ∙ w.len-tests.ensures | else-f w ↦ absurd (cc) ]) in
    let plain : f.strict ≡ false → tests ≡ 0 = (λ h. elim c.if-f.branch [ then-f w ↦ absurd (cc) | else-f w ↦ w.tests-is ]) in
    let many : c.in_ok-many.many ≡ (body_of f slots).many = c.in_ok-many.ensures ∙ ap (λ m. (built_of m slots finish f.body).many) n in
    whole_is f slots body c.first_of-entry.result tests c.push.new.self c.push-2.new.self c.push_params.new.draft c.push_statement.new.draft strict plain
    (c.first_of-body.ensures ∙ (λ j. first_from (many j) (c.in_ok-start.ensures j) finish))
    c.first_of-entry.ensures
    (c.in_ok-push.ensures ∙ (λ j. pushed (c.jumps.ensures j) (record { nodes = c.new.ensures j; blocks = c.new-2.ensures j; place = c.place.ensures j })))
    (c.in_ok-push-2.ensures ∙ ap (λ b. pushed b c.push.new.self) c.fails.ensures)
    (c.in_ok-push_params.ensures ∙ ap (λ m. begun_params m f.strict f.result f.params body c.push-2.new.self) n)
    (c.in_ok-push_statement.ensures ∙ ap (λ m. emitted (built_of m slots finish f.body) [] finish c.push_params.new.draft) n)
