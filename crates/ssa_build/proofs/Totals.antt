-- Sums over numbers in a row of how often they are set.
use Rattle.std.proofs.Common.{◌≡◌, ◌⊎◌, ℕ, zero, suc, ◌+◌, ◌*◌, ◌<◌, ◌≤◌, Bool, true, false, cond, List, [], ◌∷◌, length, slice_get, Some, None, nat_eq, refl, ap, ◌∙◌, inl, inr, arith}
use Rattle.std.proofs.lemmas.List.Sums.{sum_by-cons}
use Rattle.block_forms.specs.Forms.{Assignment}
use Rattle.block_forms.specs.Lowered.{one_of}
use Rattle.block_forms.specs.Named.{assigns_to, phis_with_name, places_that_set}
use Rattle.ssa_build.specs.Forms.{Phi, SsaBlock}
use Rattle.block_graph.proofs.Lists.{compared, tests_other, tests_same}

-- of n numbers from i on
abbrev pub total : (ℕ → ℕ) → ℕ → ℕ → ℕ
total f i zero = 0
total f i (suc n) = f i + total f (suc i) n

pub total_ones : (f : ℕ → ℕ) (i n : ℕ) → ((k : ℕ) → i ≤ k → k < i + n → f k ≡ 1) → total f i n ≡ n
total_ones f i zero h = refl
total_ones f i (suc n) h =
    let e = h i (omega arith) (omega arith) in
    let r = total_ones f (suc i) n (λ k le lt. h k (omega (arith, le)) (omega (arith, lt))) in
    omega (arith, e, r)

total_none : (f : ℕ → ℕ) (i n : ℕ) → ((k : ℕ) → i ≤ k → f k ≡ 0) → total f i n ≡ 0
total_none f i zero h = refl
total_none f i (suc n) h =
    let e = h i (omega arith) in
    let r = total_none f (suc i) n (λ k le. h k (omega (arith, le))) in
    omega (arith, e, r)

total_both : (f h j : ℕ → ℕ) (i n : ℕ) → ((k : ℕ) → f k ≡ h k + j k) → total f i n ≡ total h i n + total j i n
total_both f h j i zero e = refl
total_both f h j i (suc n) e = let a = e i in let r = total_both f h j (suc i) n e in omega (arith, a, r)

total_named : (a i n : ℕ) → total (λ k. one_of (nat_eq a k)) i n ≤ 1
total_named a i zero = omega arith
total_named a i (suc n) = go (compared a i) (total_named a (suc i) n)
  where
    go : (a ≡ i) ⊎ (a ≡ i → ⊥) → total (λ k. one_of (nat_eq a k)) (suc i) n ≤ 1 → one_of (nat_eq a i) + total (λ k. one_of (nat_eq a k)) (suc i) n ≤ 1
    go (inl same) rest =
        let one : one_of (nat_eq a i) ≡ 1 = ap one_of (tests_same a i same) in
        let none : total (λ k. one_of (nat_eq a k)) (suc i) n ≡ 0 = total_none (λ k. one_of (nat_eq a k)) (suc i) n (λ k le. ap one_of (tests_other a k (λ e. omega (arith, e, same, le)))) in
        omega (arith, one, none)
    go (inr differ) rest = let zero_here : one_of (nat_eq a i) ≡ 0 = ap one_of (tests_other a i differ) in omega (arith, zero_here, rest)

one_is : (c : Bool) → cond {A = ℕ} c 1 0 ≡ one_of c
one_is true = refl
one_is false = refl

total_phis : (φs : List Phi) (i n : ℕ) → total (phis_with_name φs) i n ≤ length φs
total_phis [] i n = let e = total_none (phis_with_name []) i n (λ k le. refl) in omega (arith, e)
total_phis (φ ∷ φs) i n =
    let e = total_both (phis_with_name (φ ∷ φs)) (λ k. one_of (nat_eq φ.name k)) (phis_with_name φs) i n
    (λ k. sum_by-cons (λ (χ : Phi). cond {A = ℕ} (nat_eq χ.name k) 1 0) φ φs ∙ ap (λ v. v + phis_with_name φs k) (one_is (nat_eq φ.name k))) in
    let one = total_named φ.name i n in
    let rest = total_phis φs i n in
    omega (arith, e, one, rest)

total_assigned : (a : Assignment) (i n : ℕ) → total (assigns_to a) i n ≤ 1
total_assigned None i n = let e = total_none (assigns_to None) i n (λ k le. refl) in omega (arith, e)
total_assigned (Some a) i n = total_named a.0 i n

-- each block sets as many names as it has φs, and one by its assignment
pub total_places : (slots : ℕ) (ys : List SsaBlock) (i n : ℕ) → ((b : ℕ) (y : SsaBlock) → slice_get ys b ≡ Some y → length y.phis ≤ slots) → total (places_that_set ys) i n ≤ length ys * (slots + 1)
total_places slots [] i n few = let e = total_none (places_that_set []) i n (λ k le. refl) in omega (arith, e)
total_places slots (y ∷ ys) i n few =
    let e = total_both (places_that_set (y ∷ ys)) (λ k. phis_with_name y.phis k + assigns_to y.set k) (places_that_set ys) i n (λ k. refl) in
    let h = total_both (λ k. phis_with_name y.phis k + assigns_to y.set k) (phis_with_name y.phis) (assigns_to y.set) i n (λ k. refl) in
    let phis = total_phis y.phis i n in
    let long = few 0 y refl in
    let set = total_assigned y.set i n in
    let rest = total_places slots ys i n (λ b x at. few (suc b) x at) in
    let q : suc (length ys) * (slots + 1) ≡ length ys * (slots + 1) + (slots + 1) = grind arith in
    omega (arith, e, h, phis, long, set, rest, q)
