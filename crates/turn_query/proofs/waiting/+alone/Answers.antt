use Rattle.std.proofs.Common.{◌≡◌, IfOk, ap, sym, ◌∙◌, subst}
use Rattle.away_values.specs.declared.types.Ty.TheVariants as ty
use Rattle.call_forms.specs.Bodies.{enters}
use Rattle.turn_bodies.specs.Trees.{as_body}
use Rattle.turn_template.specs.TurnTemplate.{choices}
use Rattle.turn_terms.specs.References.{scope_of}
use Rattle.turn_terms.specs.Sameness.{same}
use Rattle.turn_terms.specs.Writing.{term_in}
use Rattle.turn_query.specs.Filled.{waiting}
use Rattle.turn_query.proofs.BodyParts.{is_sets, is_enters, is_picks}
use Rattle.turn_query.proofs.waiting.+alone.Goals as goal

pub waiting-returns-in-Sets : goal.waiting-returns-in-Sets
waiting-returns-in-Sets t c =
    subst (λ x. IfOk c.sets_alone.result (λ list. list ≡ waiting c.args.w.now (scope_of c.args.refs.now) x))
    (sym (is_sets c.args.body.now c.in-Sets.name c.in-Sets.term c.in-Sets.rest c.in-Sets.is)) c.sets_alone.ensures

pub waiting-returns-in-Enters : goal.waiting-returns-in-Enters
waiting-returns-in-Enters t c =
    let rest = as_body c.in-Enters.rest in
    let passed : enters c.as_slice.result.now c.as_slice-in-Enters.result.now rest ≡ enters c.in-Enters.params c.in-Enters.args rest =
    λ i. enters (c.as_slice.ensures i) (c.as_slice-in-Enters.ensures i) rest in
    subst (λ x. IfOk c.enters_alone.result (λ list. list ≡ waiting c.args.w.now (scope_of c.args.refs.now) x))
    (passed ∙ sym (is_enters c.args.body.now c.in-Enters.params c.in-Enters.args c.in-Enters.rest c.in-Enters.is)) c.enters_alone.ensures

pub waiting-returns-in_ok-second-in-Picks : goal.waiting-returns-in_ok-second-in-Picks
waiting-returns-in_ok-second-in-Picks t c =
    let w = c.args.w.now in
    let refs = scope_of c.args.refs.now in
    let term = c.in-Picks.term in
    let test = term_in w refs ty.Boolean term 0 in
    let first : c.in_ok-first-in-Picks.first ≡ waiting w refs (as_body c.in-Picks.yes) =
    c.in_ok-first-in-Picks.ensures ∙ ap (λ b. waiting w refs (as_body b)) c.get.ensures in
    let second : c.in_ok-second-in-Picks.second ≡ waiting w refs (as_body c.in-Picks.no) =
    c.in_ok-second-in-Picks.ensures ∙ ap (λ b. waiting w refs (as_body b)) c.get-in-Picks.ensures in
    let whole : waiting w refs (as_body c.args.body.now)
    ≡ choices same test (waiting w refs (as_body c.in-Picks.yes)) (waiting w refs (as_body c.in-Picks.no)) =
    ap (waiting w refs) (is_picks c.args.body.now term c.in-Picks.yes c.in-Picks.no c.in-Picks.is) in
    let both : choices same test c.in_ok-first-in-Picks.first c.in_ok-second-in-Picks.second
    ≡ choices same test (waiting w refs (as_body c.in-Picks.yes)) (waiting w refs (as_body c.in-Picks.no)) =
    λ i. choices same test (first i) (second i) in
    subst (λ v. IfOk c.picked.result (λ list. list ≡ v)) (both ∙ sym whole) c.picked.ensures
