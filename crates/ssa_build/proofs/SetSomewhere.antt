-- A name that a block sets is set at one place at least.
use Rattle.std.proofs.Common.{◌≡◌, ℕ, zero, suc, ◌+◌, ◌≤◌, cond, List, [], ◌∷◌, slice_get, Option, Some, None, nat_eq, sym, ap, ◌∙◌, subst, inl, inr, arith}
use Rattle.std.proofs.lemmas.List.Sums.{sum_by-cons}
use Rattle.block_forms.specs.Lowered.{one_of}
use Rattle.block_forms.specs.Named.{assigns_to, phis_with_name, places_that_set}
use Rattle.block_forms.specs.Places.{In}
use Rattle.ssa_build.specs.Forms.{Phi, SsaBlock, Term}
use Rattle.block_graph.proofs.Lists.{none_some, some_same, tests_same}
use Rattle.ssa_build.proofs.Naming.{Assigns, Sets}
use Rattle.ssa_build.proofs.SetOnce.{here}

phi_counts : (φs : List Phi) (φ : Phi) (n : ℕ) → In φs φ → φ.name ≡ n → 1 ≤ phis_with_name φs n
phi_counts [] φ n i e = absurd i
phi_counts (χ ∷ χs) φ n i e = go i (λ j. phi_counts χs φ n j e)
  where
    more : phis_with_name (χ ∷ χs) n ≡ cond {A = ℕ} (nat_eq χ.name n) 1 0 + phis_with_name χs n
    more = sum_by-cons (λ (ψ : Phi). cond {A = ℕ} (nat_eq ψ.name n) 1 0) χ χs

    go : In (χ ∷ χs) φ → (In χs φ → 1 ≤ phis_with_name χs n) → 1 ≤ phis_with_name (χ ∷ χs) n
    go (inl q) rest =
        let m = more in
        let one : cond {A = ℕ} (nat_eq χ.name n) 1 0 ≡ 1 = ap (λ c. cond {A = ℕ} c 1 0) (tests_same χ.name n (ap (λ (ψ : Phi). ψ.name) q ∙ e)) in
        omega (arith, m, one)
    go (inr j) rest = let m = more in let r = rest j in omega (arith, m, r)

assignment_counts : (a : Option (ℕ × Term)) (n : ℕ) → Assigns a n → assigns_to a n ≡ 1
assignment_counts None n h = absurd h
assignment_counts (Some a) n h = ap one_of (tests_same a.0 n h)

counts_here : (y : SsaBlock) (n : ℕ) → Sets y n → 1 ≤ here y n
counts_here y n (inl p) = let r = phi_counts y.phis p.0 n p.1 p.2 in omega (arith, r)
counts_here y n (inr a) = let r = assignment_counts y.set n a in omega (arith, r)

pub set_somewhere : (ys : List SsaBlock) (b n : ℕ) (y : SsaBlock) → slice_get ys b ≡ Some y → Sets y n → 1 ≤ places_that_set ys n
set_somewhere [] b n y at h = absurd (none_some at)
set_somewhere (x ∷ xs) zero n y at h = let r = counts_here x n (subst (λ (v : SsaBlock). Sets v n) (sym (some_same at)) h) in omega (arith, r)
set_somewhere (x ∷ xs) (suc b) n y at h = let r = set_somewhere xs b n y at h in omega (arith, r)
