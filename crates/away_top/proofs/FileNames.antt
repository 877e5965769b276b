-- The name of a file by its number.
use Rattle.std.proofs.Common.{◌≡◌, refl, sym, ap, subst, ℕ, zero, suc, ◌<◌, ◌≤◌, get_or, map, List, [], ◌∷◌, length, arith}
use Rattle.std.proofs.lemmas.List.{length-map}
use Rattle.away_top.specs.ExpandCourse.{file_at}

pub file_main : (main : List ℕ) (others : List (List ℕ)) (k : ℕ) → k ≡ 0 → main ≡ file_at main others k
file_main main others k is = ap (λ j. file_at main others j) (sym is)

module _ {X : Type 0} (f : X → List ℕ) (main : List ℕ) where
  at_word : (xs : List X) (i : ℕ) (x : X) → i < length xs → x ≡ get_or xs i x → f x ≡ get_or (map f xs) i main
  at_word [] i x lt at = absurd (let no : ⊥ = omega (arith, lt) in no)
  at_word (y ∷ ys) zero x lt at = ap f at
  at_word (y ∷ ys) (suc i) x lt at = at_word ys i x (omega (arith, lt)) at

  past_words : (xs : List X) (i : ℕ) → length xs ≤ i → main ≡ get_or (map f xs) i main
  past_words [] zero le = refl
  past_words [] (suc i) le = refl
  past_words (y ∷ ys) zero le = absurd (let no : ⊥ = omega (arith, le) in no)
  past_words (y ∷ ys) (suc i) le = past_words ys i (omega (arith, le))

  pub file_behind : (xs : List X) (k i : ℕ) (x : X) → suc i ≡ k → i < length xs → x ≡ get_or xs i x → f x ≡ file_at main (map f xs) k
  file_behind xs k i x is lt at = subst (λ j. f x ≡ file_at main (map f xs) j) is (at_word xs i x lt at)

  pub no_file_behind : (xs : List X) (k i : ℕ) → suc i ≡ k → length xs ≤ i → main ≡ file_at main (map f xs) k
  no_file_behind xs k i is le = subst (λ j. main ≡ file_at main (map f xs) j) is (past_words xs i le)

-- ---- how many there are

module _ {X Y : Type 0} (f : X → Y) (xs : List X) (n : ℕ) where
  pub fewer_named : length xs < n → length (map f xs) < n
  fewer_named = subst (λ l. l < n) (sym (length-map xs f))

  pub as_many_named : n ≤ length xs → n ≤ length (map f xs)
  as_many_named = subst (λ l. n ≤ l) (sym (length-map xs f))
