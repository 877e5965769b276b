use Rattle.std.proofs.Common.{◌≡◌, IfOk, refl, ap, ◌∙◌, subst}
use Rattle.away_values.specs.declared.types.Ty.{Ty}
use Rattle.call_forms.specs.Scopes.{paired}
use Rattle.turn_bodies.specs.Trees.{as_body}
use Rattle.turn_template.specs.TurnTemplate.{behind, chosen, no_ref}
use Rattle.turn_terms.specs.References.{scope_of}
use Rattle.turn_terms.specs.Sameness.{same}
use Rattle.turn_query.specs.Filled.{plan, settled}
use Rattle.turn_query.specs.Plans.{as_plan, as_settled}
use Rattle.turn_query.proofs.BodyParts.{is_sets, is_enters, is_picks}
use Rattle.turn_query.proofs.PlanSteps.{set_settles, test_settles, enters_plan}
use Rattle.turn_query.proofs.plans.+plans.Goals as goal

pub plan_of-returns-in_ok-plan-in-Sets : goal.plan_of-returns-in_ok-plan-in-Sets
plan_of-returns-in_ok-plan-in-Sets t c =
    let w = c.args.w.now in
    let m = c.args.m in
    let g = c.args.guard.now in
    let refs = scope_of c.args.refs.now in
    let y = as_body c.args.body.now in
    let is = is_sets c.args.body.now c.in-Sets.name c.in-Sets.term c.in-Sets.rest c.in-Sets.is in
    let s = as_settled c.in_ok-settling-in-Sets.settling in
    let q = as_plan c.in_ok-plan-in-Sets.plan in
    let settled_as = λ (ty : Ty). settled w m g refs ty c.in-Sets.term in
    let is_settled = ◌∙◌ {b = settled_as c.type_of.result} c.in_ok-settling-in-Sets.ensures (ap settled_as c.type_of.ensures) in
    subst (λ v. IfOk c.behind.result (λ p. as_plan p ≡ v))
    (set_settles w m g refs y c.in-Sets.name c.in-Sets.term (as_body c.in-Sets.rest) is _ c.in_ok-may_wait-in-Sets.ensures
    (behind s q) q s c.if-branch.false is_settled c.in_ok-plan-in-Sets.ensures refl) c.behind.ensures

pub plan_of-returns-in-Enters : goal.plan_of-returns-in-Enters
plan_of-returns-in-Enters t c =
    let w = c.args.w.now in
    let m = c.args.m in
    let g = c.args.guard.now in
    let refs = scope_of c.args.refs.now in
    let y = as_body c.args.body.now in
    let rest = as_body c.in-Enters.rest in
    let is = is_enters c.args.body.now c.in-Enters.params c.in-Enters.args c.in-Enters.rest c.in-Enters.is in
    let passed : plan w m g (paired refs no_ref c.as_slice-params.result.now c.as_slice-args.result.now) rest
    ≡ plan w m g (paired refs no_ref c.in-Enters.params c.in-Enters.args) rest =
    λ i. plan w m g (paired refs no_ref (c.as_slice-params.ensures i) (c.as_slice-args.ensures i)) rest in
    subst (λ v. IfOk c.plan_of_entered.result (λ p. as_plan p ≡ v))
    (enters_plan w m g refs y c.in-Enters.params c.in-Enters.args rest _ is passed) c.plan_of_entered.ensures

pub plan_of-returns-in_ok-second-in-Picks : goal.plan_of-returns-in_ok-second-in-Picks
plan_of-returns-in_ok-second-in-Picks t c =
    let w = c.args.w.now in
    let m = c.args.m in
    let g = c.args.guard.now in
    let refs = scope_of c.args.refs.now in
    let y = as_body c.args.body.now in
    let is = is_picks c.args.body.now c.in-Picks.term c.in-Picks.yes c.in-Picks.no c.in-Picks.is in
    let s = as_settled c.in_ok-settling-in-Picks.settling in
    let q = as_plan c.in_ok-first-in-Picks.first in
    let r = as_plan c.in_ok-second-in-Picks.second in
    subst (λ v. IfOk c.joined.result (λ p. as_plan p ≡ v))
    (test_settles w m g refs y c.in-Picks.term (as_body c.in-Picks.yes) (as_body c.in-Picks.no) is _ c.in_ok-may_wait-in-Picks.ensures
    (behind s (chosen same (s.ref 0) q r)) q r s c.len-steps.result c.if-branch-2.false c.in_ok-settling-in-Picks.ensures
    c.in_ok-first-in-Picks.ensures c.len-steps.ensures c.in_ok-second-in-Picks.ensures refl) c.joined.ensures
