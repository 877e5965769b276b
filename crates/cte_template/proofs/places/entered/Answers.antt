use Rattle.std.proofs.Common.{◌≡◌, ap, ◌∙◌}
use Rattle.call_forms.specs.Scopes.{paired}
use Rattle.cte_template.specs.Places.{nowhere, place_of, at_keys}
use Rattle.cte_template.proofs.PlaceRules.{keys_are}
use Rattle.cte_parts.proofs.Results.{ok_by}
use Rattle.cte_template.proofs.places.entered.Goals as goal

pub returns : goal.returns
returns c =
    let keys = c.args.params.now in
    let f = place_of c.args.pairs.now in
    ok_by c.keys_at.result (λ pairs. place_of pairs ≡ at_keys keys c.as_slice.result.now) (λ pairs. place_of pairs ≡ paired f nowhere keys c.args.args.now)
    (λ pairs h. h ∙ (ap (λ ps. at_keys keys ps) (c.as_slice.ensures ∙ c.in_ok-places.ensures) ∙ keys_are f keys c.args.args.now)) c.keys_at.ensures
