use Rattle.std.proofs.Common.{◌≡◌, ap, ◌∙◌}
use Rattle.turn_terms.specs.References.{on_row, scope_of}
use Rattle.turn_terms.proofs.ReferenceRules.{scope_is}
use Rattle.turn_terms.proofs.Results.{ok_by}
use Rattle.turn_terms.proofs.terms.value_of.Goals as goal

pub returns : goal.returns
returns c =
    let refs = c.args.refs.now in
    ok_by c.written.result (λ x. x ≡ on_row c.in_ok-value.value 0) (λ x. x ≡ scope_of refs c.args.name 0)
    (λ x h. h ∙ (ap (λ e. on_row e 0) c.in_ok-value.ensures ∙ scope_is refs c.args.name 0)) c.written.ensures
