-- At how many places a name is set.
use Rattle.std.proofs.Common.{subst, ◌≡◌, ◌⊎◌, ℕ, zero, suc, ◌+◌, ◌≤◌, false, cond, List, [], ◌∷◌, map, slice_get, Option, Some, None, nat_eq, refl, sym, ap, ◌∙◌, inl, inr, arith}
use Rattle.std.proofs.lemmas.List.Sums.{sum_by-cons}
use Rattle.block_forms.specs.Lowered.{one_of}
use Rattle.block_forms.specs.Named.{assigns_to, phis_with_name, places_that_set}
use Rattle.ssa_build.specs.Forms.{Phi, SsaBlock, Term}
use Rattle.block_forms.specs.Places.{In}
use Rattle.ssa_build.proofs.Keeping.{has_phi}
use Rattle.block_graph.proofs.Lists.{compared, in_map, tests_other, tests_same}
use Rattle.ssa_build.proofs.Lists.{in_along}
use Rattle.ssa_build.proofs.Naming.{Assigns, Differ, IsPhi, Sets}

abbrev pub here : SsaBlock → ℕ → ℕ
here y n = phis_with_name y.phis n + assigns_to y.set n

-- ---- in one block

one_more : (φ : Phi) (φs : List Phi) (n : ℕ) → phis_with_name (φ ∷ φs) n ≡ cond {A = ℕ} (nat_eq φ.name n) 1 0 + phis_with_name φs n
one_more φ φs n = sum_by-cons (λ (χ : Phi). cond {A = ℕ} (nat_eq χ.name n) 1 0) φ φs

no_phi : (φs : List Phi) (n : ℕ) → ((φ : Phi) → In φs φ → φ.name ≡ n → ⊥) → phis_with_name φs n ≡ 0
no_phi [] n none = refl
no_phi (φ ∷ φs) n none =
    let e : nat_eq φ.name n ≡ false = tests_other φ.name n (none φ (inl refl)) in
    let rest : phis_with_name φs n ≡ 0 = no_phi φs n (λ ψ i. none ψ (inr i)) in
    one_more φ φs n ∙ ap (λ c. cond {A = ℕ} c 1 0 + phis_with_name φs n) e ∙ ap (λ v. 0 + v) rest

-- φs of different slots
one_phi : (names : List ℕ) (φs : List Phi) (n : ℕ) → Differ (map (λ φ. slice_get names φ.name) φs) → phis_with_name φs n ≤ 1
one_phi names [] n d = omega arith
one_phi names (φ ∷ φs) n d = subst (λ v. v ≤ 1) (sym (one_more φ φs n)) (go (compared φ.name n) (one_phi names φs n d.1))
  where
    go : (φ.name ≡ n) ⊎ (φ.name ≡ n → ⊥) → phis_with_name φs n ≤ 1 → cond {A = ℕ} (nat_eq φ.name n) 1 0 + phis_with_name φs n ≤ 1
    go (inr differ) le = let e : cond {A = ℕ} (nat_eq φ.name n) 1 0 ≡ 0 = ap (λ c. cond {A = ℕ} c 1 0) (tests_other φ.name n differ) in omega (arith, e, le)
    go (inl same) le =
        let e : cond {A = ℕ} (nat_eq φ.name n) 1 0 ≡ 1 = ap (λ c. cond {A = ℕ} c 1 0) (tests_same φ.name n same) in
        let rest : phis_with_name φs n ≡ 0 = no_phi φs n (λ ψ i q. d.0 (in_along (map (λ (χ : Phi). slice_get names χ.name) φs) _ _ (ap (slice_get names) (q ∙ sym same)) (in_map (λ (χ : Phi). slice_get names χ.name) φs ψ i))) in
        omega (arith, e, rest)

assigns_or_not : (a : Option (ℕ × Term)) (n : ℕ) → (Assigns a n × (assigns_to a n ≡ 1)) ⊎ ((Assigns a n → ⊥) × (assigns_to a n ≡ 0))
assigns_or_not None n = inr ((λ h. h), refl)
assigns_or_not (Some a) n = elim (compared a.0 n) [ inl e ↦ inl (e, ap one_of (tests_same a.0 n e)) | inr e ↦ inr (e, ap one_of (tests_other a.0 n e)) ]

sets_or_not : (y : SsaBlock) (n : ℕ) → Sets y n ⊎ (Sets y n → ⊥)
sets_or_not y n = go (has_phi y.phis n) (assigns_or_not y.set n)
  where
    go : ((φ : Phi) × In y.phis φ × (φ.name ≡ n)) ⊎ ((φ : Phi) → In y.phis φ → φ.name ≡ n → ⊥) → (Assigns y.set n × (assigns_to y.set n ≡ 1)) ⊎ ((Assigns y.set n → ⊥) × (assigns_to y.set n ≡ 0)) → Sets y n ⊎ (Sets y n → ⊥)
    go (inl p) a = inl (inl p)
    go (inr none) (inl a) = inl (inr a.0)
    go (inr none) (inr a) = inr (λ h. elim h [ inl p ↦ none p.0 p.1 p.2 | inr q ↦ a.0 q ])

pub unset_here : (y : SsaBlock) (n : ℕ) → (Sets y n → ⊥) → here y n ≡ 0
unset_here y n none = go (assigns_or_not y.set n)
  where
    phis : phis_with_name y.phis n ≡ 0
    phis = no_phi y.phis n (λ φ i e. none (inl (φ, i, e)))

    go : (Assigns y.set n × (assigns_to y.set n ≡ 1)) ⊎ ((Assigns y.set n → ⊥) × (assigns_to y.set n ≡ 0)) → here y n ≡ 0
    go (inl a) = absurd (none (inr a.0))
    go (inr a) = let e = a.1 in omega (arith, phis, e)

pub once_here : (names : List ℕ) (y : SsaBlock) (n : ℕ) → Differ (map (λ φ. slice_get names φ.name) y.phis) → (IsPhi y n → Assigns y.set n → ⊥) → here y n ≤ 1
once_here names y n d apart = go (assigns_or_not y.set n)
  where
    go : (Assigns y.set n × (assigns_to y.set n ≡ 1)) ⊎ ((Assigns y.set n → ⊥) × (assigns_to y.set n ≡ 0)) → here y n ≤ 1
    go (inl a) = let p = no_phi y.phis n (λ φ i e. apart (φ, i, e) a.0) in let e = a.1 in omega (arith, p, e)
    go (inr a) = let p = one_phi names y.phis n d in let e = a.1 in omega (arith, p, e)

-- ---- in all blocks

pub unset : (ys : List SsaBlock) (n : ℕ) → ((b : ℕ) (y : SsaBlock) → slice_get ys b ≡ Some y → Sets y n → ⊥) → places_that_set ys n ≡ 0
unset [] n none = refl
unset (y ∷ ys) n none =
    let e : here y n ≡ 0 = unset_here y n (none zero y refl) in
    let rest : places_that_set ys n ≡ 0 = unset ys n (λ b w at. none (suc b) w at) in
    ap (λ v. v + places_that_set ys n) e ∙ ap (λ v. 0 + v) rest

pub set_once : (ys : List SsaBlock) (n : ℕ) → ((b : ℕ) (y : SsaBlock) → slice_get ys b ≡ Some y → here y n ≤ 1) → ((b c : ℕ) (x y : SsaBlock) → slice_get ys b ≡ Some x → slice_get ys c ≡ Some y → Sets x n → Sets y n → b ≡ c) → places_that_set ys n ≤ 1
set_once [] n each same = omega arith
set_once (y ∷ ys) n each same = go (sets_or_not y n) (set_once ys n (λ b w at. each (suc b) w at) (λ b c x w p q h k. let r : suc b ≡ suc c = same (suc b) (suc c) x w p q h k in omega (arith, r)))
  where
    go : Sets y n ⊎ (Sets y n → ⊥) → places_that_set ys n ≤ 1 → here y n + places_that_set ys n ≤ 1
    go (inl h) less =
        let rest : places_that_set ys n ≡ 0 = unset ys n (λ b w at k. let e : 0 ≡ suc b = same zero (suc b) y w refl at h k in omega (arith, e)) in
        let le : here y n ≤ 1 = each zero y refl in
        omega (arith, rest, le)
    go (inr none) less = let e : here y n ≡ 0 = unset_here y n none in omega (arith, e, less)
