-- Two lists are one where their elements are, place by place.
use Rattle.std.proofs.Common.{◌≡◌, suc, List, [], ◌∷◌, length, refl, arith}
use Rattle.block_forms.specs.Places.{EachPair}

module _ {X : Type 0} where
  pub same_at_places : (xs ys : List X) → length xs ≡ length ys → EachPair (λ i x y. x ≡ y) xs ys → xs ≡ ys
  same_at_places [] [] e each = refl
  same_at_places [] (y ∷ ys) e each = absurd (omega arith)
  same_at_places (x ∷ xs) [] e each = absurd (omega arith)
  same_at_places (x ∷ xs) (y ∷ ys) e each =
      let head = each 0 x y refl refl in
      let tail = same_at_places xs ys (omega arith) (λ i a b. each (suc i) a b) in
      cc

  pub each_same : (xs ys : List X) → xs ≡ ys → EachPair (λ i x y. x ≡ y) xs ys
  each_same xs ys e i x y f g = cc
