-- Walks along entries, and what one more merge does to them.
use Rattle.std.proofs.Common.{◌≡◌, ◌≢◌, ◌⊎◌, ℕ, zero, suc, ◌+◌, ◌-◌, ◌<◌, ◌≤◌, true, false, if◌then◌else◌, List, [], ◌∷◌, length, get_or, set, nat_eq, refl, sym, ap, ◌∙◌, inl, inr, arith, get_or-set_same, get_or-set_other}
use Rattle.ssa_build.specs.Joins.{IsRoot, IsWithin, one_if, roots, walk}
use Rattle.block_graph.proofs.Lists.{compared, tests_other, tests_same}

pub walk_within : (into : List ℕ) (k n : ℕ) → IsWithin into → n < length into → walk into k n < length into
walk_within into zero n w h = h
walk_within into (suc k) n w h = w (walk into k n) (walk_within into k n w h)

-- a root is where it leads
pub walk_root : (into : List ℕ) (k n : ℕ) → IsRoot into n → walk into k n ≡ n
walk_root into zero n r = refl
walk_root into (suc k) n r = ap (λ v. get_or into v 0) (walk_root into k n r) ∙ r

pub walk_more : (into : List ℕ) (i k n : ℕ) → IsRoot into (walk into i n) → walk into (i + k) n ≡ walk into i n
walk_more into i zero n r = ap (λ v. walk into v n) (let e : i + 0 ≡ i = omega arith in e)
walk_more into i (suc k) n r = ap (λ v. walk into v n) (let e : i + suc k ≡ suc (i + k) = omega arith in e) ∙ ap (λ v. get_or into v 0) (walk_more into i k n r) ∙ r

-- where a root is met early, the walk ends there
pub walk_early : (into : List ℕ) (i m n : ℕ) → IsRoot into (walk into i n) → i ≤ m → walk into m n ≡ walk into i n
walk_early into i m n r le = ap (λ v. walk into v n) (let e : m ≡ i + (m - i) = omega arith in e) ∙ walk_more into i (m - i) n r

pub walk_next : (into : List ℕ) (i n : ℕ) → walk into (i + 1) n ≡ get_or into (walk into i n) 0
walk_next into i n = ap (λ v. walk into v n) (let e : i + 1 ≡ suc i = omega arith in e)

module _ (into : List ℕ) (n m : ℕ) (here : n < length into) (root : IsRoot into n) (target : IsRoot into m) (other : m ≢ n) where
  abbrev now : List ℕ
  now = set into n m

  at_n : get_or now n 0 ≡ m
  at_n = get_or-set_same into n m 0 here

  at_other : (k : ℕ) → (k ≡ n → ⊥) → get_or now k 0 ≡ get_or into k 0
  at_other k differ = get_or-set_other into n k m 0 differ

  pub target_stays : IsRoot now m
  target_stays = at_other m other ∙ target

  -- the two walks agree, or the old one stays at n and the new one at m
  both : (k x : ℕ) → (walk now k x ≡ walk into k x) ⊎ ((walk into k x ≡ n) × (walk now k x ≡ m))
  both zero x = inl refl
  both (suc k) x = go (both k x) (compared (walk into k x) n)
    where
      go : (walk now k x ≡ walk into k x) ⊎ ((walk into k x ≡ n) × (walk now k x ≡ m)) → (walk into k x ≡ n) ⊎ (walk into k x ≡ n → ⊥) → (walk now (suc k) x ≡ walk into (suc k) x) ⊎ ((walk into (suc k) x ≡ n) × (walk now (suc k) x ≡ m))
      go (inr q) c = inr (ap (λ v. get_or into v 0) q.0 ∙ root, ap (λ v. get_or now v 0) q.1 ∙ target_stays)
      go (inl e) (inl q) = inr (ap (λ v. get_or into v 0) q ∙ root, ap (λ v. get_or now v 0) (e ∙ q) ∙ at_n)
      go (inl e) (inr differ) = inl (ap (λ v. get_or now v 0) e ∙ at_other (walk into k x) differ)

  -- one more step finds m in place of n
  pub walk_merged : (k x : ℕ) → IsRoot into (walk into k x) → walk now (suc k) x ≡ (if nat_eq (walk into k x) n then m else walk into k x)
  walk_merged k x r = go (both k x) (compared (walk into k x) n)
    where
      go : (walk now k x ≡ walk into k x) ⊎ ((walk into k x ≡ n) × (walk now k x ≡ m)) → (walk into k x ≡ n) ⊎ (walk into k x ≡ n → ⊥) → walk now (suc k) x ≡ (if nat_eq (walk into k x) n then m else walk into k x)
      go (inr q) c = ap (λ v. get_or now v 0) q.1 ∙ target_stays ∙ sym (ap (λ c. if c then m else walk into k x) (tests_same (walk into k x) n q.0))
      go (inl e) (inl q) = ap (λ v. get_or now v 0) (e ∙ q) ∙ at_n ∙ sym (ap (λ c. if c then m else walk into k x) (tests_same (walk into k x) n q))
      go (inl e) (inr differ) = ap (λ v. get_or now v 0) e ∙ at_other (walk into k x) differ ∙ r ∙ sym (ap (λ c. if c then m else walk into k x) (tests_other (walk into k x) n differ))

-- ---- how many roots there are

pub roots_set : (into : List ℕ) (i n m : ℕ) → n < length into → get_or into n 0 ≡ i + n → (m ≡ i + n → ⊥) → suc (roots (set into n m) i) ≡ roots into i
roots_set [] i n m lt e differ = absurd (let no : ⊥ = omega arith in no)
roots_set (x ∷ xs) i zero m lt e differ =
    let a : nat_eq m i ≡ false = tests_other m i (λ q. differ (let r : m ≡ i + 0 = omega arith in r)) in
    let b : nat_eq x i ≡ true = tests_same x i (let r : x ≡ i = omega arith in r) in
    ap (λ c. suc (one_if c + roots xs (suc i))) a ∙ (let s : suc (0 + roots xs (suc i)) ≡ 1 + roots xs (suc i) = omega arith in s) ∙ sym (ap (λ c. one_if c + roots xs (suc i)) b)
roots_set (x ∷ xs) i (suc n) m lt e differ =
    let rest : suc (roots (set xs n m) (suc i)) ≡ roots xs (suc i) = roots_set xs (suc i) n m (omega arith) (let r : get_or xs n 0 ≡ suc i + n = omega arith in r) (λ q. differ (let r : m ≡ i + suc n = omega arith in r)) in
    omega arith
