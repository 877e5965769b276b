use Rattle.std.proofs.Common.{◌∙◌, ap, sym, subst, ◌+◌, ◌<◌, ℕ, None, Option, get_or, length, true, arith}
use Rattle.expanded_sizes.specs.Sizes.{expanded_weight}
use Rattle.expanded_sizes.specs.Weighing.{IsCount}
use Rattle.expanded_sizes.proofs.WeighingRules.{longer, one_more}
use Rattle.expanded_sizes.proofs.weights.one_deeper.Goals as goal

pub loop-i-preserved : goal.loop-i-preserved
loop-i-preserved c =
    let g = c.args.g in
    let all = c.loop-i.all in
    let i = c.loop-i.i in
    let o = c.of_body.result in
    let P : ℕ → Option ℕ → Type 0 = λ j x. IsCount (expanded_weight g.weights g.fs.now (g.depth + 1) true j) x in
    let last : P i o = subst (λ b. IsCount (expanded_weight g.weights g.fs.now (g.depth + 1) b i) o) c.requires.inside c.of_body.ensures in
    let each = one_more P all o c.loop-i.invariant.1 (subst (λ j. P j o) (sym c.loop-i.invariant.0) last) in (
      ap (λ l. length l) c.in_ok-push.ensures.ok ∙ (longer all o ∙ omega (arith, c.loop-i.invariant.0)),
      subst (λ l. (j : ℕ) → j < length l
          → P j (get_or l j None)) (sym c.in_ok-push.ensures.ok) each,
    )
