use Rattle.std.proofs.Common.{◌≡◌, ap, ◌∙◌}
use Rattle.call_forms.specs.Scopes.{paired}
use Rattle.turn_template.specs.TurnTemplate.{no_ref}
use Rattle.turn_terms.specs.References.{value_in, scope_of, at_keys}
use Rattle.turn_terms.specs.Writing.{place_in}
use Rattle.turn_terms.proofs.ReferenceRules.{columns_scope}
use Rattle.turn_terms.proofs.Results.{ok_by}
use Rattle.turn_terms.proofs.references.on_columns.Goals as goal

pub returns : goal.returns
returns c =
    let keys = c.args.params.now in
    let w = c.args.w.now in
    ok_by c.keys_at.result (λ list. value_in list ≡ at_keys keys c.as_slice.result.now) (λ list. scope_of list ≡ paired (place_in w) no_ref keys c.args.places.now)
    (λ list h. columns_scope w list keys c.args.places.now (h ∙ ap (λ xs. at_keys keys xs) (c.as_slice.ensures ∙ c.in_ok-values.ensures))) c.keys_at.ensures
