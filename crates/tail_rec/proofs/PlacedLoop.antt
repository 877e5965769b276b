-- The loop that gives places.
use Rattle.std.proofs.Common.{◌≡◌, ℕ, zero, suc, ◌+◌, ◌<◌, ◌≤◌, List, [], ◌∷◌, ◌++◌, length, get_or, drop, Option, refl, sym, ap, ◌∙◌, subst, arith, append_assoc}
use Rattle.std.proofs.lemmas.List.{drop_more}
use Rattle.away_values.specs.declared.types.Ty.{Ty}
use Rattle.tail_rec.specs.declared.columns.PerType.{PerType}
use Rattle.tail_rec.specs.Columns.{place_for, after_place, placed, HasRoom}

none_left : {X : Type 0} (xs : List X) (i : ℕ) → length xs ≤ i → drop i xs ≡ []
none_left [] zero le = refl
none_left [] (suc i) le = refl
none_left (x ∷ xs) zero le = absurd (let no : ⊥ = omega (arith, le) in no)
none_left (x ∷ xs) (suc i) le = none_left xs i (omega (arith, le))

pub room_left : (free : PerType) (params : List ℕ) (i : ℕ) → i < length params → HasRoom free (length (drop i params))
    → HasRoom free (suc (length (drop (i + 1) params)))
room_left free params i lt h = subst (HasRoom free) (ap length (drop_more params i 0 lt)) h

module _ (types : ℕ → Option Ty) (params all : List ℕ) (i : ℕ) (free : PerType) (places : List ℕ)
    (so : places ++ placed types free (drop i params) ≡ all) where
  pub placed_on : (new : List ℕ) (found : Option Ty) (p : ℕ) (next : PerType) → i < length params → found ≡ types (get_or params i 0)
      → p ≡ place_for free found → new ≡ places ++ p ∷ [] → next ≡ after_place free found → new ++ placed types next (drop (i + 1) params) ≡ all
  placed_on new found p next lt of_type place is after =
      let rest = drop (i + 1) params in
      let first = ap (λ l. l ++ placed types next rest) is ∙ append_assoc places (p ∷ []) (placed types next rest) in
      let same_place = ap (λ q. places ++ (q ∷ placed types next rest)) (place ∙ ap (place_for free) of_type) in
      let same_free = ap (λ f. places ++ (place_for free (types (get_or params i 0)) ∷ placed types f rest)) (after ∙ ap (after_place free) of_type) in
      first ∙ (same_place ∙ (same_free ∙ (ap (λ l. places ++ placed types free l) (sym (drop_more params i 0 lt)) ∙ so)))

  pub placed_over : length params ≤ i → places ≡ all
  placed_over le = sym (no_more places) ∙ (ap (λ l. places ++ placed types free l) (sym (none_left params i le)) ∙ so)
    where
      no_more : (xs : List ℕ) → xs ++ [] ≡ xs
      no_more [] = refl
      no_more (x ∷ xs) = ap (λ l. x ∷ l) (no_more xs)
