-- Lists under two functions.
use Rattle.std.proofs.Common.{◌≡◌, refl, ap, Bool, ◌||◌, List, [], ◌∷◌, ◌++◌, map, Option, Some, None}
use Rattle.std.specs.List.{list_any}
use Rattle.away_values.specs.Results.{Or, and_then, mapped, each, each_joined}

pub fused : {A B C : Type 0} (f : B → C) (g : A → B) (xs : List A) → map f (map g xs) ≡ map (λ x. f (g x)) xs
fused f g [] = refl
fused f g (x ∷ xs) = ap (λ ys. f (g x) ∷ ys) (fused f g xs)

pub any_map : {A B : Type 0} (f : B → Bool) (g : A → B) (xs : List A) → list_any f (map g xs) ≡ list_any (λ x. f (g x)) xs
any_map f g [] = refl
any_map f g (x ∷ xs) = ap (λ b. f (g x) || b) (any_map f g xs)

pub each_map : {A B C : Type 0} (f : B → Or C) (g : A → B) (xs : List A) → each f (map g xs) ≡ each (λ x. f (g x)) xs
each_map f g [] = refl
each_map f g (x ∷ xs) = ap (λ ys. and_then (f (g x)) (λ y. mapped (λ ys. y ∷ ys) ys)) (each_map f g xs)

pub joined_map : {A B C : Type 0} (f : B → Or (List C)) (g : A → B) (xs : List A) → each_joined f (map g xs) ≡ each_joined (λ x. f (g x)) xs
joined_map f g [] = refl
joined_map f g (x ∷ xs) = ap (λ ys. and_then (f (g x)) (λ y. mapped (λ ys. y ++ ys) ys)) (joined_map f g xs)

-- ---- two lists whose members correspond

abbrev pub Zipped : {A B : Type 0} → (A → B → Type 0) → List A → List B → Type 0
Zipped R [] [] = Unit {0}
Zipped R (x ∷ xs) (y ∷ ys) = R x y × Zipped R xs ys
Zipped R _ _ = ⊥

abbrev pub ZippedOption : {A B : Type 0} → (A → B → Type 0) → Option A → Option B → Type 0
ZippedOption R None None = Unit {0}
ZippedOption R (Some x) (Some y) = R x y
ZippedOption R _ _ = ⊥

pub any_same : {A B : Type 0} (R : A → B → Type 0) (f : A → Bool) (g : B → Bool) → ((x : A) (y : B) → R x y → g y ≡ f x) → (xs : List A) (ys : List B) → Zipped R xs ys → list_any g ys ≡ list_any f xs
any_same R f g same [] [] h = refl
any_same R f g same (x ∷ xs) (y ∷ ys) h = λ i. same x y h.0 i || any_same R f g same xs ys h.1 i
any_same R f g same _ _ h = absurd h
