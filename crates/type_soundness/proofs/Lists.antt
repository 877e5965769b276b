-- What holds of every member of a list, through the functions that make lists.
use Rattle.std.proofs.Common.{◌≡◌, sym, subst, ℕ, zero, suc, Bool, true, false, List, [], ◌∷◌, ◌++◌, map, take, filter, slice_index_or, Some, Ok}
use Rattle.std.specs.Prelude.{if◌then◌else◌, slice_get}
use Rattle.std.specs.List.{AllZip, flat_map}
use Rattle.away_values.specs.Results.{Or, mapped, each, each_joined}
use Rattle.sql_meaning.proofs.Related.{Alike}
use Rattle.sql_meaning.proofs.Lists.{Zipped}
use Rattle.type_soundness.specs.Sorts.{Every}
use Rattle.type_soundness.proofs.Results.{then_of, mapped_of, ok_is}

pub chosen : {A : Type 0} (P : A → Type 0) (b : Bool) (x y : A) → P x → P y → P (if b then x else y)
chosen P true x y h k = h
chosen P false x y h k = k

module _ {A : Type 0} (P : A → Type 0) where
  pub every_append : (xs ys : List A) → Every P xs → Every P ys → Every P (xs ++ ys)
  every_append [] ys h k = k
  every_append (x ∷ xs) ys h k = (h.0, every_append xs ys h.1 k)

  pub every_left : (xs ys : List A) → Every P (xs ++ ys) → Every P xs
  every_left [] ys h = tt
  every_left (x ∷ xs) ys h = (h.0, every_left xs ys h.1)

  pub every_right : (xs ys : List A) → Every P (xs ++ ys) → Every P ys
  every_right [] ys h = h
  every_right (x ∷ xs) ys h = every_right xs ys h.1

  pub every_filter : (keep : A → Bool) (xs : List A) → Every P xs → Every P (filter keep xs)
  every_filter keep [] h = tt
  every_filter keep (x ∷ xs) h = chosen (Every P) (keep x) (x ∷ filter keep xs) (filter keep xs) (h.0, every_filter keep xs h.1) (every_filter keep xs h.1)

  pub every_take : (n : ℕ) (xs : List A) → Every P xs → Every P (take n xs)
  every_take zero [] h = tt
  every_take zero (x ∷ xs) h = tt
  every_take (suc n) [] h = tt
  every_take (suc n) (x ∷ xs) h = (h.0, every_take n xs h.1)

pub every_map : {A B : Type 0} (P : A → Type 0) (Q : B → Type 0) (f : A → B) → ((x : A) → P x → Q (f x)) → (xs : List A) → Every P xs → Every Q (map f xs)
every_map P Q f go [] h = tt
every_map P Q f go (x ∷ xs) h = (go x h.0, every_map P Q f go xs h.1)

-- ---- results in lists

pub every_each : {A B : Type 0} (P : A → Type 0) (Q : B → Type 0) (f : A → Or B) → ((x : A) → P x → (y : B) → f x ≡ Ok y → Q y) → (xs : List A) → Every P xs → (ys : List B) → each f xs ≡ Ok ys → Every Q ys
every_each P Q f go [] h ys e = subst (Every Q) (sym (ok_is [] ys e)) tt
every_each P Q f go (x ∷ xs) h ys e =
    let a = then_of (f x) (λ y. mapped (λ ys. y ∷ ys) (each f xs)) ys e in
    let b = mapped_of (λ ys. a.x ∷ ys) (each f xs) ys a.second in
    subst (Every Q) (sym b.second) (go x h.0 a.x a.first, every_each P Q f go xs h.1 b.x b.first)

pub every_joined : {A B : Type 0} (P : A → Type 0) (Q : B → Type 0) (f : A → Or (List B)) → ((x : A) → P x → (ys : List B) → f x ≡ Ok ys → Every Q ys) → (xs : List A) → Every P xs → (ys : List B) → each_joined f xs ≡ Ok ys → Every Q ys
every_joined P Q f go [] h ys e = subst (Every Q) (sym (ok_is [] ys e)) tt
every_joined P Q f go (x ∷ xs) h ys e =
    let a = then_of (f x) (λ ys. mapped (λ zs. ys ++ zs) (each_joined f xs)) ys e in
    let b = mapped_of (λ zs. a.x ++ zs) (each_joined f xs) ys a.second in
    subst (Every Q) (sym b.second) (every_append Q a.x b.x (go x h.0 a.x a.first) (every_joined P Q f go xs h.1 b.x b.first))

-- ---- two lists, place by place

pub zip_at : {A B : Type 0} (R : A → B → Type 0) (xs : List A) (ys : List B) (d : B) → AllZip R xs ys → (k : ℕ) (x : A) → slice_get xs k ≡ Some x → R x (slice_index_or ys k d)
zip_at R [] [] d h k x e = cc
zip_at R [] (y ∷ ys) d h k x e = absurd h
zip_at R (a ∷ xs) [] d h k x e = absurd h
zip_at R (a ∷ xs) (y ∷ ys) d h zero x e = subst (λ z. R z y) (some_is a x e) h.0
  where
    some_is : {A : Type 0} (a x : A) → Some a ≡ Some x → a ≡ x
    some_is a x e = cc
zip_at R (a ∷ xs) (y ∷ ys) d h (suc k) x e = zip_at R xs ys d h.1 k x e

pub zip_push : {A B : Type 0} (R : A → B → Type 0) (xs : List A) (ys : List B) (x : A) (y : B) → AllZip R xs ys → R x y → AllZip R (xs ++ x ∷ []) (ys ++ y ∷ [])
zip_push R [] [] x y h k = (k, tt)
zip_push R (a ∷ xs) (b ∷ ys) x y h k = (h.0, zip_push R xs ys x y h.1 k)
zip_push R [] (b ∷ ys) x y h k = absurd h
zip_push R (a ∷ xs) [] x y h k = absurd h

-- ---- related lists of three, where what the second one needs is there

module _ {U L : Type 0} (P : L → Type 0) (part : U → List L) where
  pub zipped : {X Z : Type 0} (R : X → U → Z → Type 0) (S : X → Z → Type 0) → ((x : X) (u : U) (z : Z) → R x u z → Every P (part u) → S x z) → (xs : List X) (us : List U) (zs : List Z) → Alike R xs us zs → Every P (flat_map part us) → Zipped S xs zs
  zipped R S go [] [] [] r h = tt
  zipped R S go (x ∷ xs) (u ∷ us) (z ∷ zs) r h = (go x u z r.0 (every_left P (part u) (flat_map part us) h), zipped R S go xs us zs r.1 (every_right P (part u) (flat_map part us) h))
  zipped R S go _ _ _ r h = absurd r
