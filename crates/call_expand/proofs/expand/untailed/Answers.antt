use Rattle.std.proofs.Common.{◌≡◌, refl, ap, sym, subst, ◌∙◌, suc, ◌≤◌, length, arith}
use Rattle.moved_names.specs.Fresh.{AreFresh}
use Rattle.call_expand.specs.declared.made.Plan.TheVariants as plan
use Rattle.call_expand.specs.Moving.{moved_params, seeing_params}
use Rattle.call_expand.specs.Untailing.{IsUntailing, old_body, turning_body}
use Rattle.call_expand.proofs.UntailingRules.{old_body_is, is_untailing}
use Rattle.call_expand.proofs.expand.untailed.Goals as goal

pub returns : goal.returns
returns c =
    let s = c.args.s.now in
    let f = c.args.f.now in
    let names = c.in_ok-names.names in
    let m = c.in_ok-old.field-0 in
    let fresh = subst (λ l. AreFresh s l names) c.from_ref.ensures.value c.in_ok-names.ensures.are in
    let walked : m ≡ old_body names f =
    c.in_ok-old.ensures
    ∙ (old_body_is (record { names = c.as_slice-2.result; plan = plan.Untail c.args.f }) f c.in_ok-seen.seen c.in_ok-next.field-0 refl refl (c.in_ok-seen.ensures ∙ ap (λ ps. seeing_params 0 ps) c.as_slice.ensures) (c.in_ok-next.ensures ∙ ap (λ k. suc k) c.in_ok-label.ensures)
    ∙ ap (λ ns. old_body ns f) c.as_slice-2.ensures) in
    let few : m.next ≤ length names = omega (arith, c.in_ok-old.used-is, c.if-used-len.false, c.len.ensures) in
    let params = c.in_ok-moved_params.ensures ∙ (λ i. moved_params (c.as_slice-3.ensures i) 0 (c.as_slice-4.ensures i)) in
    let body = c.in_ok-turning.ensures ∙ (λ i. turning_body (c.as_slice-5.ensures i) f m.it) in
    subst (λ g. IsUntailing s f g) (λ i. record { name = sym c.in_ok-copy.ensures i; strict = f.strict; params = sym params i; result = f.result; body = sym body i })
    (is_untailing s f names m fresh walked few)
