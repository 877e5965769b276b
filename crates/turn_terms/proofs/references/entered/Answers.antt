use Rattle.std.proofs.Common.{◌≡◌, ap, ◌∙◌}
use Rattle.call_forms.specs.Scopes.{paired}
use Rattle.turn_template.specs.TurnTemplate.{no_ref}
use Rattle.turn_terms.specs.References.{value_in, scope_of, at_keys}
use Rattle.turn_terms.proofs.ReferenceRules.{entered_scope}
use Rattle.turn_terms.proofs.Results.{ok_by}
use Rattle.turn_terms.proofs.references.entered.Goals as goal

pub returns : goal.returns
returns c =
    let keys = c.args.params.now in
    let refs = c.args.refs.now in
    ok_by c.keys_at.result (λ list. value_in list ≡ at_keys keys c.as_slice.result.now) (λ list. scope_of list ≡ paired (scope_of refs) no_ref keys c.args.args.now)
    (λ list h. entered_scope refs list keys c.args.args.now (h ∙ ap (λ xs. at_keys keys xs) (c.as_slice.ensures ∙ c.in_ok-values.ensures))) c.keys_at.ensures
