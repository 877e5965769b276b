use Rattle.std.proofs.Common.{◌≡◌, ◌∙◌, sym, ap, None, Some, bytes_eq, true}
use Rattle.call_meaning.specs.Calls.{called_at}
use Rattle.call_expand.specs.Expanding.{call_place}
use Rattle.call_expand.specs.Untailing.{self_names}
use Rattle.call_expand.proofs.PlaceRules.{self_called}
use Rattle.call_expand.proofs.places.self_call.Goals as goal

pub returns-then-eq : goal.returns-then-eq
returns-then-eq c =
    let same : bytes_eq c.args.f.now.name c.in-Call.name ≡ true = (λ i. bytes_eq (sym c.text.ensures.value i) (sym c.text-then-is_none.ensures.value i)) ∙ (sym c.eq.ensures ∙ c.if-eq.true) in
    ap (λ xs. called_at None xs (Some 0)) c.as_slice.ensures
    ∙ sym (ap (call_place (self_names c.args.f.now)) c.in-Call.is ∙ self_called c.args.f.now _ _ c.function.result c.function.ensures c.if-is_none.ensures same)
