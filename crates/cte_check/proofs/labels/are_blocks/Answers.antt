use Rattle.std.proofs.Common.{◌≡◌, get_or, refl, sym, ap, ◌∙◌, arith}
use mathlib.Core.Logic.{inl, inr}
use Rattle.std.proofs.lemmas.Bool.{cases_lt}
use Rattle.std.proofs.lemmas.Option.{slice_get-get_or, get_or_from_slice_get, slice_get_within}
use Rattle.cte_check.proofs.labels.are_blocks.Goals as goal

pub loop-label-init : goal.loop-label-init
loop-label-init c i x lt e = absurd (omega arith)

pub returns-then-label-blocks : goal.returns-then-label-blocks
returns-then-label-blocks c = (
  λ no. absurd (cc),
  λ each. absurd (omega (arith, each c.loop-label.label-index _ (slice_get-get_or c.args.labels.now c.loop-label.label-index 0 c.loop-label-test.true), c.if-label-blocks.true)),
)

pub loop-label-preserved : goal.loop-label-preserved
loop-label-preserved c i x lt e =
    elim (cases_lt i c.loop-label.label-index) [
      | inl before ↦ c.loop-label.invariant i x before e
      | inr behind ↦
          let here : i ≡ c.loop-label.label-index = omega (arith, lt, behind) in
          let is : get_or c.args.labels.now c.loop-label.label-index 0 ≡ x = ap (λ j. get_or c.args.labels.now j 0) (sym here) ∙ get_or_from_slice_get c.args.labels.now i x 0 e in
          omega (arith, is, c.if-label-blocks.false)
    ]

pub returns : goal.returns
returns c = (λ yes i x e. c.loop-label.invariant i x (omega (arith, slice_get_within c.args.labels.now i x e, c.loop-label-test.false)) e, λ each. refl)
