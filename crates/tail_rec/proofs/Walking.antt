-- The loop of the walk.
use Rattle.std.proofs.Common.{◌≡◌, ℕ, suc, ◌+◌, Bool, List, [], ◌∷◌, ◌++◌, Some, None, refl, sym, ap, ◌∙◌, arith}
use Rattle.std.specs.Prelude.{slice_get}
use Rattle.call_forms.specs.declared.forms.AnfBlock.{AnfBlock}
use Rattle.tail_rec.specs.declared.walk.Reached.{Reached}
use Rattle.tail_rec.specs.Walk.{after_end, after_block, after, after_some, walked}

no_more : {X : Type 0} (xs : List X) → xs ++ [] ≡ xs
no_more [] = refl
no_more (x ∷ xs) = ap (λ l. x ∷ l) (no_more xs)

module _ (firm : ℕ → Bool) (xs : List AnfBlock) where
  pub after_no_block : (rs : List Reached) (r : Reached) → slice_get xs r.block ≡ None → rs ≡ rs ++ after firm xs r
  after_no_block rs r e = sym (ap (λ o. rs ++ after_block firm r.depth o) e ∙ no_more rs)

  pub after_this_block : (r : Reached) (x : AnfBlock) → slice_get xs r.block ≡ Some x → after_end firm r.depth x.end ≡ after firm xs r
  after_this_block r x e = sym (ap (after_block firm r.depth) e)

  one_more : (i : ℕ) → walked firm xs i ++ after_some firm xs (slice_get (walked firm xs i) i) ≡ walked firm xs (i + 1)
  one_more i = ap (walked firm xs) (let e : suc i ≡ i + 1 = omega arith in e)

  pub walk_on : (i : ℕ) (rs new : List Reached) (r : Reached) → rs ≡ walked firm xs i → slice_get rs i ≡ Some r → new ≡ rs ++ after firm xs r
      → new ≡ walked firm xs (i + 1)
  walk_on i rs new r so at is =
      is ∙ (ap (λ o. rs ++ after_some firm xs o) (sym at) ∙ (ap (λ rs. rs ++ after_some firm xs (slice_get rs i)) so ∙ one_more i))

  pub walk_over : (i : ℕ) (rs new : List Reached) → rs ≡ walked firm xs i → slice_get rs i ≡ None → new ≡ rs → new ≡ walked firm xs (i + 1)
  walk_over i rs new so at is =
      is ∙ (sym (no_more rs) ∙ (ap (λ o. rs ++ after_some firm xs o) (sym at) ∙ (ap (λ rs. rs ++ after_some firm xs (slice_get rs i)) so ∙ one_more i)))
