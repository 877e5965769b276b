-- Membership in numbers in order, and one number more.
use Rattle.std.proofs.Common.{◌≡◌, ℕ, zero, suc, ◌+◌, ◌<◌, ◌≤◌, Bool, true, false, cond, List, [], ◌∷◌, ◌++◌, refl, ap, ◌∙◌, inl, inr, arith}
use Rattle.std.specs.List.{filter}
use Rattle.std.proofs.lemmas.List.Elements.{filter-append}
use Rattle.block_forms.specs.Places.{In}
use Rattle.block_graph.specs.Ranges.{count_from}
use Rattle.block_graph.proofs.Lists.{compared}

pub from_count : (i n s : ℕ) → In (count_from i n) s → (i ≤ s) × (s < i + n)
from_count i zero s m = absurd m
from_count i (suc n) s (inl e) = (omega (arith, e), omega (arith, e))
from_count i (suc n) s (inr m) = let r = from_count (suc i) n s m in (omega (arith, r.0), omega (arith, r.1))

pub in_count : (i n s : ℕ) → i ≤ s → s < i + n → In (count_from i n) s
in_count i zero s le lt = absurd (let no : ⊥ = omega (arith, le, lt) in no)
in_count i (suc n) s le lt = elim (compared i s) [ inl e ↦ inl e | inr differ ↦ inr (in_count (suc i) n s (omega (arith, le, differ)) (omega (arith, lt))) ]

count_on : (i n : ℕ) → count_from i (suc n) ≡ count_from i n ++ (i + n) ∷ []
count_on i zero = ap (λ v. v ∷ []) (let e : i ≡ i + 0 = omega arith in e)
count_on i (suc n) = ap (λ l. i ∷ l) (count_on (suc i) n ∙ ap (λ v. count_from (suc i) n ++ v ∷ []) (let e : suc i + n ≡ i + suc n = omega arith in e))

pub count_more : (n : ℕ) → count_from 0 (n + 1) ≡ count_from 0 n ++ n ∷ []
count_more n = ap (count_from 0) (let e : n + 1 ≡ suc n = omega arith in e) ∙ count_on 0 n ∙ ap (λ v. count_from 0 n ++ v ∷ []) (let e : 0 + n ≡ n = omega arith in e)

-- ---- numbers that pass

pub filter_yes : (p : ℕ → Bool) (n : ℕ) → p n ≡ true → filter p (count_from 0 (n + 1)) ≡ filter p (count_from 0 n) ++ n ∷ []
filter_yes p n e = ap (filter p) (count_more n) ∙ filter-append p (count_from 0 n) (n ∷ []) ∙ ap (λ c. filter p (count_from 0 n) ++ cond c (n ∷ []) []) e

pub no_more : {X : Type 0} (xs : List X) → xs ++ [] ≡ xs
no_more [] = refl
no_more (x ∷ xs) = ap (λ l. x ∷ l) (no_more xs)

pub filter_no : (p : ℕ → Bool) (n : ℕ) → p n ≡ false → filter p (count_from 0 (n + 1)) ≡ filter p (count_from 0 n)
filter_no p n e = ap (filter p) (count_more n) ∙ filter-append p (count_from 0 n) (n ∷ []) ∙ ap (λ c. filter p (count_from 0 n) ++ cond c (n ∷ []) []) e ∙ no_more (filter p (count_from 0 n))
