-- What a node reads is what its parts read.
use Rattle.std.proofs.Common.{◌≡◌, refl, ap, sym, ◌∙◌, ℕ, Bool, true, false, ◌&&◌, if◌then◌else◌, List, [], ◌∷◌, ◌++◌, map, Option, Some, None, option_map}
use Rattle.std.specs.List.{list_all, flat_map}
use Rattle.away_trees.specs.declared.queries.Col.{Col}
use Rattle.sql_meaning.specs.Reads.{Read, Outer, Reads, of_option}
use Rattle.sql_meaning.proofs.Related.{Alike, AlikeOption}
use Rattle.sql_meaning.proofs.Lists.{Zipped, ZippedOption}

pub and_first : (a b : Bool) → (a && b) ≡ true → a ≡ true
and_first true b h = refl
and_first false b h = h

pub and_second : (a b : Bool) → (a && b) ≡ true → b ≡ true
and_second true b h = h
and_second false b h = cc

pub both_true : (a b : Bool) → a ≡ true → b ≡ true → (a && b) ≡ true
both_true a b h k = λ i. h i && k i

module _ {X : Type 0} (p : X → Bool) where
  pub left : (xs ys : List X) → list_all p (xs ++ ys) ≡ true → list_all p xs ≡ true
  left [] ys h = refl
  left (x ∷ xs) ys h = both_true (p x) (list_all p xs) (and_first (p x) _ h) (left xs ys (and_second (p x) _ h))

  pub right : (xs ys : List X) → list_all p (xs ++ ys) ≡ true → list_all p ys ≡ true
  right [] ys h = h
  right (x ∷ xs) ys h = right xs ys (and_second (p x) _ h)

-- ---- related lists, where all that the second one reads is allowed

module _ (ok : Read → Bool) where
  -- a column of its own selects reads nothing from outside
  pub own_column : (b : Bool) (c : Col) → ok (Outer c) ≡ false → list_all ok (if b then [] else Outer c ∷ []) ≡ true → b ≡ true
  own_column true c out h = refl
  own_column false c out h = sym (ap (λ b. b && true) out) ∙ h

  pub zipped : {X U Z : Type 0} (R : X → U → Z → Type 0) (S : X → Z → Type 0) (part : U → List Read) → ((x : X) (u : U) (z : Z) → R x u z → list_all ok (part u) ≡ true → S x z) → (xs : List X) (us : List U) (zs : List Z) → Alike R xs us zs → list_all ok (flat_map part us) ≡ true → Zipped S xs zs
  zipped R S part go [] [] [] r h = tt
  zipped R S part go (x ∷ xs) (u ∷ us) (z ∷ zs) r h = (go x u z r.0 (left ok (part u) (flat_map part us) h), zipped R S part go xs us zs r.1 (right ok (part u) (flat_map part us) h))
  zipped R S part go _ _ _ r h = absurd r

  pub zipped_option : {X Z : Type 0} (R : X → Reads → Z → Type 0) (S : X → Z → Type 0) (d : ℕ) → ((x : X) (u : Reads) (z : Z) → R x u z → list_all ok (u d) ≡ true → S x z) → (x : Option X) (u : Option Reads) (z : Option Z) → AlikeOption R x u z → list_all ok (of_option d u) ≡ true → ZippedOption S x z
  zipped_option R S d go None None None r h = tt
  zipped_option R S d go (Some x) (Some u) (Some z) r h = go x u z r h
  zipped_option R S d go _ _ _ r h = absurd r

-- the second list under two functions
pub under : {X Y A B : Type 0} (S : X → B → Type 0) (h : Y → A) (k : A → B) (xs : List X) (ys : List Y) → Zipped (λ x y. S x (k (h y))) xs ys → Zipped S xs (map k (map h ys))
under S h k [] [] r = tt
under S h k (x ∷ xs) (y ∷ ys) r = (r.0, under S h k xs ys r.1)
under S h k _ _ r = absurd r

pub under_option : {X Y A B : Type 0} (S : X → B → Type 0) (h : Y → A) (k : A → B) (x : Option X) (y : Option Y) → ZippedOption (λ x y. S x (k (h y))) x y → ZippedOption S x (option_map k (option_map h y))
under_option S h k None None r = tt
under_option S h k (Some x) (Some y) r = r
under_option S h k _ _ r = absurd r
