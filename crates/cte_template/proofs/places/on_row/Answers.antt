use Rattle.std.proofs.Common.{◌≡◌, ap, ◌∙◌}
use Rattle.call_forms.specs.Scopes.{paired}
use Rattle.cte_template.specs.Places.{nowhere, carried_place, place_of, at_keys}
use Rattle.cte_template.proofs.PlaceRules.{keys_are}
use Rattle.cte_parts.proofs.Results.{ok_by}
use Rattle.cte_template.proofs.places.on_row.Goals as goal

pub returns : goal.returns
returns c =
    let keys = c.args.params.now in
    ok_by c.keys_at.result (λ pairs. place_of pairs ≡ at_keys keys c.as_slice.result.now) (λ pairs. place_of pairs ≡ paired (carried_place c.args.carried.now) nowhere keys c.args.columns.now)
    (λ pairs h. h ∙ (ap (λ ps. at_keys keys ps) (c.as_slice.ensures ∙ c.in_ok-places.ensures) ∙ keys_are (carried_place c.args.carried.now) keys c.args.columns.now)) c.keys_at.ensures
