use Rattle.std.proofs.Common.{◌≡◌, ◌∙◌, ap, sym, subst, ◌+◌, ◌<◌, ℕ, get_or, length, true, arith}
use Rattle.expanded_sizes.specs.Depths.{expanded_depth}
use Rattle.expanded_sizes.specs.Walking.{told}
use Rattle.expanded_sizes.proofs.WalkingRules.{longer, one_more}
use Rattle.expanded_sizes.proofs.depths.one_deeper.Goals as goal

pub loop-i-preserved : goal.loop-i-preserved
loop-i-preserved c =
    let g = c.args.g in
    let all = c.loop-i.all in
    let n = c.in_ok-of_body.field-0 in
    let P : ℕ → ℕ → Type 0 = λ j x. x ≡ told (expanded_depth g.fs.now (g.calls + 1) true j) in
    let last : P c.loop-i.i n = subst (λ b. n ≡ told (expanded_depth g.fs.now (g.calls + 1) b c.loop-i.i)) c.requires.inside c.in_ok-of_body.ensures in
    let each = one_more P all n c.loop-i.invariant.1 (subst (λ j. P j n) (sym c.loop-i.invariant.0) last) in (
      ap (λ l. length l) c.in_ok-push.ensures.ok ∙ (longer all n ∙ omega (arith, c.loop-i.invariant.0)),
      subst (λ l. (j : ℕ) → j < length l
          → P j (get_or l j 0)) (sym c.in_ok-push.ensures.ok) each,
    )
