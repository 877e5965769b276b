use Rattle.std.proofs.Common.{◌≡◌, get_or, ap, sym, ◌∙◌, refl, ℕ, Some, rules}
use Rattle.std.specs.Prelude.{slice_get}
use Rattle.call_forms.specs.Called.{HasName}
use Rattle.call_check.proofs.Seeking.{none_at_first, none_more, none_of_all, stands_at}
use Rattle.call_check.proofs.calls.has_name.Goals as goal

pub loop-pair-init : goal.loop-pair-init
loop-pair-init c = none_at_first (λ p. p.1 ≡ c.args.n) c.as_slice-pair-items.result.now

pub loop-pair-preserved : goal.loop-pair-preserved
loop-pair-preserved c =
    none_more (λ p. p.1 ≡ c.args.n) c.as_slice-pair-items.result.now c.loop-pair.pair-index (0, 0) c.loop-pair-test.true c.loop-pair.invariant c.if-pair-n.false

pub returns-then-pair-n : goal.returns-then-pair-n
returns-then-pair-n c =
    let pair : ℕ × ℕ = get_or c.as_slice-pair-items.result.now c.loop-pair.pair-index (0, 0) in
    let there = stands_at c.as_slice-pair-items.result.now c.loop-pair.pair-index (0, 0) c.loop-pair-test.true in (
      λ t. record { place = c.loop-pair.pair-index; slot = pair.0; there = ap (λ m. slice_get m c.loop-pair.pair-index) (sym c.as_slice-pair-items.ensures) ∙ (there ∙ ap (λ n. Some (pair.0, n)) c.if-pair-n.true) },
      λ h. search rules,
    )

pub returns : goal.returns
returns c = (
  λ t. absurd (cc),
  λ (h : HasName c.args.y.now c.args.n). absurd (none_of_all (λ p. p.1 ≡ c.args.n) c.as_slice-pair-items.result.now c.loop-pair.pair-index c.loop-pair-test.false c.loop-pair.invariant h.place (h.slot, c.args.n) (ap (λ m. slice_get m h.place) c.as_slice-pair-items.ensures ∙ h.there) refl),
)
