use Rattle.std.proofs.Common.{◌≡◌, refl, ap, sym, subst, ◌∙◌, ◌<◌, ℕ, Option, Some, None, get_or, length, arith}
use Rattle.expanded_sizes.proofs.WeighingRules.{longer, one_more}
use Rattle.expanded_sizes.proofs.weights.entering_none.Goals as goal

pub loop-preserved : goal.loop-preserved
loop-preserved c =
    let all = c.loop.all in
    let o = Some c.args.w.statement in
    let P : ℕ → Option ℕ → Type 0 = λ j x. x ≡ o in
    let each = one_more P all o c.loop.invariant.1 refl in (
      ap (λ l. length l) c.in_ok-push.ensures.ok ∙ (longer all o ∙ omega (arith, c.loop.invariant.0)),
      subst (λ l. (j : ℕ) → j < length l
          → get_or l j None ≡ o) (sym c.in_ok-push.ensures.ok) each,
    )
