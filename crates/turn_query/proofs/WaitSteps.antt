-- Whether a test may stand in cells alone, by its first part.
use Rattle.std.proofs.Common.{◌≡◌, ℕ, Bool, true, false, ◌&&◌, List, refl, ap, ◌∙◌}
use Rattle.block_forms.specs.declared.forms.Term.{Term}
use Rattle.call_forms.specs.Bodies.{Body, picks}
use Rattle.turn_template.specs.TurnTemplate.{reads_none}
use Rattle.turn_terms.specs.declared.writer.Writer.{Writer}
use Rattle.turn_query.specs.Filled.{total, may_wait}

past : (a b c : Bool) → (a && b) ≡ true → (a && (b && c)) ≡ c
past true true c e = refl
past true false c e = absurd (cc)
past false b c e = absurd (cc)

module _ (w : Writer) (waits : List ℕ) (t : Term) (x y : Body) (early : (total w t && reads_none waits t.names) ≡ true) where
  pub picks_first : may_wait w waits x ≡ false → may_wait w waits (picks t x y) ≡ false
  picks_first e =
      past (total w t) (reads_none waits t.names) (may_wait w waits x && may_wait w waits y) early ∙ ap (λ b. b && may_wait w waits y) e

  pub picks_second : may_wait w waits x ≡ true → may_wait w waits (picks t x y) ≡ may_wait w waits y
  picks_second e =
      past (total w t) (reads_none waits t.names) (may_wait w waits x && may_wait w waits y) early ∙ ap (λ b. b && may_wait w waits y) e
