-- Two lists have one image where their elements do, place by place.
use Rattle.std.proofs.Common.{◌≡◌, suc, List, [], ◌∷◌, length, map, refl, arith}
use Rattle.block_forms.specs.Places.{EachPair}

pub maps_at_places : {X Y Z : Type 0} (f : X → Z) (g : Y → Z) (xs : List X) (ys : List Y) → length xs ≡ length ys
    → EachPair (λ i x y. f x ≡ g y) xs ys → map f xs ≡ map g ys
maps_at_places f g [] [] e each = refl
maps_at_places f g [] (y ∷ ys) e each = absurd (omega arith)
maps_at_places f g (x ∷ xs) [] e each = absurd (omega arith)
maps_at_places f g (x ∷ xs) (y ∷ ys) e each =
    let head = each 0 x y refl refl in
    let tail = maps_at_places f g xs ys (omega arith) (λ i a b. each (suc i) a b) in
    λ i. head i ∷ tail i
