use Rattle.std.proofs.Common.{◌≡◌, true, false, ◌&&◌, IfOk, ap, sym, ◌∙◌, subst}
use Rattle.call_forms.specs.Bodies.{enters}
use Rattle.turn_bodies.specs.Trees.{as_body}
use Rattle.turn_template.specs.TurnTemplate.{reads_none}
use Rattle.turn_query.specs.Filled.{total, may_wait}
use Rattle.turn_query.proofs.BodyParts.{is_sets, is_enters, is_picks}
use Rattle.turn_query.proofs.WaitSteps.{picks_first, picks_second}
use Rattle.turn_query.proofs.waits.+waits.Goals as goal

pub may_wait-returns-then-not-branch : goal.may_wait-returns-then-not-branch
may_wait-returns-then-not-branch t c =
    let w = c.args.w.now in
    let waits = c.args.waits.now in
    let term = c.in-Picks.term in
    let early : (total w term && reads_none waits term.names) ≡ true = sym c.is_early.ensures ∙ c.if-not-is_early.false in
    let first : may_wait w waits (as_body c.in-Picks.yes) ≡ false =
    ap (λ b. may_wait w waits (as_body b)) (sym c.get.ensures) ∙ (sym c.in_ok-may_wait-in-Picks.ensures ∙ c.if-not-branch.true) in
    let whole : may_wait w waits (as_body c.args.body.now) ≡ false =
    ap (may_wait w waits) (is_picks c.args.body.now term c.in-Picks.yes c.in-Picks.no c.in-Picks.is)
    ∙ picks_first w waits term (as_body c.in-Picks.yes) (as_body c.in-Picks.no) early first in
    sym whole

pub may_wait-returns-in-Sets : goal.may_wait-returns-in-Sets
may_wait-returns-in-Sets t c =
    subst (λ x. IfOk c.sets_may_wait.result (λ b. b ≡ may_wait c.args.w.now c.args.waits.now x))
    (sym (is_sets c.args.body.now c.in-Sets.name c.in-Sets.term c.in-Sets.rest c.in-Sets.is)) c.sets_may_wait.ensures

pub may_wait-returns-in-Enters : goal.may_wait-returns-in-Enters
may_wait-returns-in-Enters t c =
    let rest = as_body c.in-Enters.rest in
    let passed : enters c.as_slice.result.now c.as_slice-in-Enters.result.now rest ≡ enters c.in-Enters.params c.in-Enters.args rest =
    λ i. enters (c.as_slice.ensures i) (c.as_slice-in-Enters.ensures i) rest in
    subst (λ x. IfOk c.enters_may_wait.result (λ b. b ≡ may_wait c.args.w.now c.args.waits.now x))
    (passed ∙ sym (is_enters c.args.body.now c.in-Enters.params c.in-Enters.args c.in-Enters.rest c.in-Enters.is)) c.enters_may_wait.ensures

pub may_wait-returns-else-not-branch : goal.may_wait-returns-else-not-branch
may_wait-returns-else-not-branch t c =
    let w = c.args.w.now in
    let waits = c.args.waits.now in
    let term = c.in-Picks.term in
    let no = as_body c.in-Picks.no in
    let early : (total w term && reads_none waits term.names) ≡ true = sym c.is_early.ensures ∙ c.if-not-is_early.false in
    let first : may_wait w waits (as_body c.in-Picks.yes) ≡ true =
    ap (λ b. may_wait w waits (as_body b)) (sym c.get.ensures) ∙ (sym c.in_ok-may_wait-in-Picks.ensures ∙ c.if-not-branch.false) in
    let whole : may_wait w waits (as_body c.args.body.now) ≡ may_wait w waits no =
    ap (may_wait w waits) (is_picks c.args.body.now term c.in-Picks.yes c.in-Picks.no c.in-Picks.is)
    ∙ picks_second w waits term (as_body c.in-Picks.yes) no early first in
    let same : may_wait w waits (as_body c.get-in-Picks.result.now) ≡ may_wait w waits (as_body c.args.body.now) =
    ap (λ b. may_wait w waits (as_body b)) c.get-in-Picks.ensures ∙ sym whole in
    subst (λ v. IfOk c.may_wait-in-Picks.result (λ b. b ≡ v)) same c.may_wait-in-Picks.ensures
