use Rattle.std.proofs.Common.{◌∙◌, sym, ap, None, Some}
use Rattle.call_meaning.specs.Calls.{called_at}
use Rattle.call_expand.specs.Expanding.{call_place, names_of}
use Rattle.call_expand.proofs.PlaceRules.{call_rule}
use Rattle.call_expand.proofs.places.call_place.Goals as goal

pub returns-in-Some : goal.returns-in-Some
returns-in-Some c =
    ap (λ xs. called_at None xs (Some c.in-Some.part)) c.as_slice.ensures
    ∙ sym (ap (call_place (names_of c.args.fs.now)) c.in-Call.is ∙ (call_rule (names_of c.args.fs.now) _ _ ∙ ap (called_at None _) (sym c.number_of.ensures ∙ c.in-Some.is)))
