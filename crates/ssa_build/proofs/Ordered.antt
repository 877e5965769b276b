-- Numbers in order, filtered and by their places.
use Rattle.std.proofs.Common.{◌≡◌, ℕ, zero, suc, ◌+◌, ◌<◌, ◌≤◌, ◌-◌, Bool, true, cond, List, [], ◌∷◌, ◌++◌, map, length, get_or, slice_get, Some, refl, sym, ap, ◌∙◌, arith, append_assoc}
use Rattle.std.proofs.lemmas.Option.{get_or_from_slice_get}
use Rattle.std.proofs.lemmas.List.Elements.{filter-append}
use Rattle.std.proofs.lemmas.List.Sums.{count_by-le-length, length-filter}
use Rattle.std.specs.List.{filter}
use Rattle.block_graph.specs.Ranges.{count_from}
use Rattle.block_graph.proofs.Ranges.{count_more}
use Rattle.block_graph.proofs.Lists.{at_map}

pub pushed : (xs ys : List ℕ) (n : ℕ) → ys ≡ xs ++ count_from 0 n → ys ++ n ∷ [] ≡ xs ++ count_from 0 (n + 1)
pushed xs ys n e = ap (λ l. l ++ n ∷ []) e ∙ append_assoc xs (count_from 0 n) (n ∷ []) ∙ ap (λ l. xs ++ l) (sym (count_more n))

pub length_count : (i n : ℕ) → length (count_from i n) ≡ n
length_count i zero = refl
length_count i (suc n) = ap suc (length_count (suc i) n)

pub at_count : (i n k : ℕ) → k < n → slice_get (count_from i n) k ≡ Some (i + k)
at_count i zero k lt = absurd (let no : ⊥ = omega (arith, lt) in no)
at_count i (suc n) zero lt = ap Some (let e : i ≡ i + 0 = omega arith in e)
at_count i (suc n) (suc k) lt = at_count (suc i) n k (omega (arith, lt)) ∙ ap Some (let e : suc i + k ≡ i + suc k = omega arith in e)

-- what a map of the numbers has at a number
pub map_count : (f : ℕ → ℕ) (n s : ℕ) → s < n → get_or (map f (count_from 0 n)) s 0 ≡ f s
map_count f n s lt = get_or_from_slice_get (map f (count_from 0 n)) s (f s) 0 (at_map f (count_from 0 n) s s (at_count 0 n s lt ∙ ap Some (let e : 0 + s ≡ s = omega arith in e)))

-- ---- joined lists

pub at_left : {X : Type 0} (xs ys : List X) (k : ℕ) → k < length xs → slice_get (xs ++ ys) k ≡ slice_get xs k
at_left [] ys k lt = absurd (let no : ⊥ = omega arith in no)
at_left (x ∷ xs) ys zero lt = refl
at_left (x ∷ xs) ys (suc k) lt = at_left xs ys k (omega arith)

pub at_right : {X : Type 0} (xs ys : List X) (k : ℕ) → slice_get (xs ++ ys) (length xs + k) ≡ slice_get ys k
at_right [] ys k = ap (slice_get ys) (let e : 0 + k ≡ k = omega arith in e)
at_right (x ∷ xs) ys k = ap (slice_get (x ∷ (xs ++ ys))) (let e : suc (length xs) + k ≡ suc (length xs + k) = omega arith in e) ∙ at_right xs ys k

pub get_old : {X : Type 0} (xs : List X) (x d : X) (k : ℕ) → k < length xs → get_or (xs ++ x ∷ []) k d ≡ get_or xs k d
get_old [] x d k lt = absurd (let no : ⊥ = omega arith in no)
get_old (y ∷ ys) x d zero lt = refl
get_old (y ∷ ys) x d (suc k) lt = get_old ys x d k (omega arith)

pub get_new : {X : Type 0} (xs : List X) (x d : X) (k : ℕ) → k ≡ length xs → get_or (xs ++ x ∷ []) k d ≡ x
get_new [] x d zero e = refl
get_new [] x d (suc k) e = absurd (let no : ⊥ = omega (arith, e) in no)
get_new (y ∷ ys) x d zero e = absurd (let no : ⊥ = omega (arith, e) in no)
get_new (y ∷ ys) x d (suc k) e = get_new ys x d k (omega (arith, e))

-- ---- numbers that pass

count_split : (i s m : ℕ) → count_from i (s + m) ≡ count_from i s ++ count_from (i + s) m
count_split i zero m = ap (count_from i) (let e : 0 + m ≡ m = omega arith in e) ∙ ap (λ v. count_from v m) (let e : i ≡ i + 0 = omega arith in e)
count_split i (suc s) m = ap (count_from i) (let e : suc s + m ≡ suc (s + m) = omega arith in e) ∙ ap (λ l. i ∷ l) (count_split (suc i) s m ∙ ap (λ v. count_from (suc i) s ++ count_from v m) (let e : suc i + s ≡ i + suc s = omega arith in e))

module _ (p : ℕ → Bool) where
  pub passed_few : (n : ℕ) → length (filter p (count_from 0 n)) ≤ n
  passed_few n = let a = length-filter p (count_from 0 n) in let b = count_by-le-length p (count_from 0 n) in let c = length_count 0 n in omega (arith, a, b, c)

  passed_from : (s m : ℕ) → p s ≡ true → filter p (count_from 0 (s + suc m)) ≡ filter p (count_from 0 s) ++ s ∷ filter p (count_from (suc s) m)
  passed_from s m e =
      ap (filter p) (count_split 0 s (suc m) ∙ ap (λ v. count_from 0 s ++ count_from v (suc m)) (let q : 0 + s ≡ s = omega arith in q))
      ∙ filter-append p (count_from 0 s) (count_from s (suc m)) ∙ ap (λ c. filter p (count_from 0 s) ++ cond c (s ∷ filter p (count_from (suc s) m)) (filter p (count_from (suc s) m))) e

  -- a number that passes stands behind those before it that pass
  pub passed_at : (n s : ℕ) (ys : List ℕ) → s < n → p s ≡ true → slice_get (filter p (count_from 0 n) ++ ys) (length (filter p (count_from 0 s))) ≡ Some s
  passed_at n s ys lt e =
      let before = filter p (count_from 0 s) in
      let m = n - suc s in
      let rest = filter p (count_from (suc s) m) in
      ap (λ v. slice_get (filter p (count_from 0 v) ++ ys) (length before)) (let q : n ≡ s + suc m = omega (arith, lt) in q)
      ∙ ap (λ l. slice_get (l ++ ys) (length before)) (passed_from s m e)
      ∙ ap (λ l. slice_get l (length before)) (append_assoc before (s ∷ rest) ys)
      ∙ ap (slice_get (before ++ (s ∷ (rest ++ ys)))) (let q : length before ≡ length before + 0 = omega arith in q)
      ∙ at_right before (s ∷ (rest ++ ys)) 0
