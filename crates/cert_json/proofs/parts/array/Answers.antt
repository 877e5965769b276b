use Rattle.std.proofs.Common.{Some, map, sym, ap, refl, ◌∙◌}
use Rattle.serde_json.specs.View.{view}
use Rattle.cert_json.proofs.Lists.{list_from}
use Rattle.cert_json.proofs.parts.array.Goals as goal

pub returns-in-Some : goal.returns-in-Some
returns-in-Some c =
    list_from (view c.args.value.now) (map view c.in-Some.items.now.items) _ refl (sym c.in-Some.ensures) ∙ ap (λ vs. Some (map view vs)) (sym c.as_slice.ensures.value)
