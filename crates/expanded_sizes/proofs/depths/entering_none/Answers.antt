use Rattle.std.proofs.Common.{◌≡◌, refl, ap, sym, subst, ◌∙◌, ◌<◌, ℕ, get_or, length, arith}
use Rattle.expanded_sizes.proofs.WalkingRules.{longer, one_more}
use Rattle.expanded_sizes.proofs.depths.entering_none.Goals as goal

pub loop-preserved : goal.loop-preserved
loop-preserved c =
    let all = c.loop.all in
    let each = one_more (λ j n. n ≡ 0) all 0 c.loop.invariant.1 refl in (
      ap (λ l. length l) c.in_ok-push.ensures.ok ∙ (longer all 0 ∙ omega (arith, c.loop.invariant.0)),
      subst (λ l. (j : ℕ) → j < length l
          → get_or l j 0 ≡ 0) (sym c.in_ok-push.ensures.ok) each,
    )
