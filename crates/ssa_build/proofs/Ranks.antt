-- Numbering name by name.
use Rattle.std.proofs.Common.{◌≡◌, ◌⊎◌, ℕ, zero, suc, ◌+◌, ◌<◌, ◌≤◌, List, [], ◌∷◌, ◌++◌, length, get_or, refl, sym, ap, ◌∙◌, subst, inl, inr, arith}
use Rattle.ssa_build.specs.Joins.{IsRoot}
use Rattle.ssa_build.specs.Numbers.{Numbers}
use Rattle.block_graph.proofs.Lists.{compared}

pub at_old : (xs : List ℕ) (v k : ℕ) → k < length xs → get_or (xs ++ v ∷ []) k 0 ≡ get_or xs k 0
at_old [] v k lt = absurd (let no : ⊥ = omega arith in no)
at_old (x ∷ xs) v zero lt = refl
at_old (x ∷ xs) v (suc k) lt = at_old xs v k (omega arith)

pub at_new : (xs : List ℕ) (v k : ℕ) → k ≡ length xs → get_or (xs ++ v ∷ []) k 0 ≡ v
at_new [] v zero e = refl
at_new [] v (suc k) e = absurd (let no : ⊥ = omega (arith, e) in no)
at_new (x ∷ xs) v zero e = absurd (let no : ⊥ = omega (arith, e) in no)
at_new (x ∷ xs) v (suc k) e = at_new xs v k (omega (arith, e))

pub one_longer : (xs : List ℕ) (v : ℕ) → length (xs ++ v ∷ []) ≡ suc (length xs)
one_longer [] v = refl
one_longer (x ∷ xs) v = ap suc (one_longer xs v)

-- the first i names are numbered
pub record Numbered (slots into numbers names : List ℕ) (i : ℕ) : Type 0 where
  pub sized : length numbers ≡ i
  pub few : length names ≤ i
  pub slot : (n : ℕ) → n < i → IsRoot into n → (get_or numbers n 0 < length names) × (get_or names (get_or numbers n 0) 0 ≡ get_or slots n 0)
  pub rising : (n m : ℕ) → n < m → m < i → IsRoot into n → get_or numbers n 0 < get_or numbers m 0
  pub first : (n : ℕ) → n < i → ((k : ℕ) → k < n → IsRoot into k) → get_or numbers n 0 ≡ n
  pub all : ((k : ℕ) → k < i → IsRoot into k) → length names ≡ i
  pub source : (k : ℕ) → k < length names → (n : ℕ) × (n < i) × (get_or names k 0 ≡ get_or slots n 0)
  pub used : (k : ℕ) → k < length names → (n : ℕ) × (n < i) × IsRoot into n × (get_or numbers n 0 ≡ k)

pub numbered_none : (slots into : List ℕ) → Numbered slots into [] [] 0
numbered_none slots into = record {
  sized = refl;
  few = omega arith;
  slot = λ n h. absurd (let no : ⊥ = omega (arith, h) in no);
  rising = λ n m h g. absurd (let no : ⊥ = omega (arith, g) in no);
  first = λ n h. absurd (let no : ⊥ = omega (arith, h) in no);
  all = λ h. refl;
  source = λ k h. absurd (let no : ⊥ = omega (arith, h) in no);
  used = λ k h. absurd (let no : ⊥ = omega (arith, h) in no);
}

module _ (slots into numbers names : List ℕ) (i : ℕ) (so : Numbered slots into numbers names i) where
  abbrev now : List ℕ
  now = numbers ++ length names ∷ []

  before : (n : ℕ) → n < i + 1 → (n ≡ i) ⊎ (n < i)
  before n h = elim (compared n i) [ inl e ↦ inl e | inr differ ↦ inr (omega (arith, h, differ)) ]

  old : (n : ℕ) → n < i → get_or now n 0 ≡ get_or numbers n 0
  old n h = at_old numbers (length names) n (subst (λ v. n < v) (sym so.sized) h)

  new : get_or now i 0 ≡ length names
  new = at_new numbers (length names) i (sym so.sized)

  rises : (n m : ℕ) → n < m → m < i + 1 → IsRoot into n → get_or now n 0 < get_or now m 0
  rises n m h g r = go (before m g)
    where
      go : (m ≡ i) ⊎ (m < i) → get_or now n 0 < get_or now m 0
      go (inl e) =
          let a : get_or now n 0 ≡ get_or numbers n 0 = old n (omega (arith, h, e)) in
          let b : get_or now m 0 ≡ length names = ap (λ v. get_or now v 0) e ∙ new in
          let c : get_or numbers n 0 < length names = (so.slot n (omega (arith, h, e)) r).0 in
          omega (arith, a, b, c)
      go (inr lt) =
          let a : get_or now n 0 ≡ get_or numbers n 0 = old n (omega (arith, h, lt)) in
          let b : get_or now m 0 ≡ get_or numbers m 0 = old m lt in
          let c : get_or numbers n 0 < get_or numbers m 0 = so.rising n m h lt r in
          omega (arith, a, b, c)

  firsts : (n : ℕ) → n < i + 1 → ((k : ℕ) → k < n → IsRoot into k) → get_or now n 0 ≡ n
  firsts n h all = go (before n h)
    where
      go : (n ≡ i) ⊎ (n < i) → get_or now n 0 ≡ n
      go (inl e) = ap (λ v. get_or now v 0) e ∙ new ∙ so.all (λ k lt. all k (omega (arith, lt, e))) ∙ sym e
      go (inr lt) = old n lt ∙ so.first n lt all

  -- a name that is merged into another has no new number of its own
  pub passed_over : (IsRoot into i → ⊥) → Numbered slots into now names (i + 1)
  passed_over no_root = record {
    sized = one_longer numbers (length names) ∙ (let e : suc (length numbers) ≡ i + 1 = let q = so.sized in omega (arith, q) in e);
    few = let q = so.few in omega (arith, q);
    slot = λ n h r. elim (before n h) [ inl e ↦ absurd (no_root (subst (λ v. IsRoot into v) e r)) | inr lt ↦ let q = so.slot n lt r in (subst (λ v. v < length names) (sym (old n lt)) q.0, ap (λ v. get_or names v 0) (old n lt) ∙ q.1) ];
    rising = rises;
    first = firsts;
    all = λ all. absurd (no_root (all i (omega arith)));
    source = λ k h. let q = so.source k h in (q.0, (let lt = q.1 in omega (arith, lt)), q.2);
    used = λ k h. let q = so.used k h in (q.0, (let lt = q.1 in omega (arith, lt)), q.2, old q.0 q.1 ∙ q.3);
  }

  abbrev more : List ℕ
  more = names ++ get_or slots i 0 ∷ []

  pub numbered_one : IsRoot into i → Numbered slots into now more (i + 1)
  numbered_one root = record {
    sized = one_longer numbers (length names) ∙ (let e : suc (length numbers) ≡ i + 1 = let q = so.sized in omega (arith, q) in e);
    few = let q = so.few in let e = one_longer names (get_or slots i 0) in omega (arith, q, e);
    slot = λ n h r. slot_of n r (before n h);
    rising = rises;
    first = firsts;
    all = λ all. one_longer names (get_or slots i 0) ∙ (let q = so.all (λ k lt. all k (omega (arith, lt))) in let e : suc (length names) ≡ i + 1 = omega (arith, q) in e);
    source = λ k h. source_of k h (compared k (length names));
    used = λ k h. used_of k h (compared k (length names));
  }
    where
      long : length more ≡ suc (length names)
      long = one_longer names (get_or slots i 0)

      slot_of : (n : ℕ) → IsRoot into n → (n ≡ i) ⊎ (n < i) → (get_or now n 0 < length more) × (get_or more (get_or now n 0) 0 ≡ get_or slots n 0)
      slot_of n r (inl e) =
          let a : get_or now n 0 ≡ length names = ap (λ v. get_or now v 0) e ∙ new in
          (omega (arith, a, long), at_new names (get_or slots i 0) (get_or now n 0) a ∙ ap (λ v. get_or slots v 0) (sym e))
      slot_of n r (inr lt) =
          let q = so.slot n lt r in
          let a : get_or now n 0 ≡ get_or numbers n 0 = old n lt in
          let c : get_or numbers n 0 < length names = q.0 in
          (omega (arith, a, c, long), at_old names (get_or slots i 0) (get_or now n 0) (omega (arith, a, c)) ∙ ap (λ v. get_or names v 0) a ∙ q.1)

      source_of : (k : ℕ) → k < length more → (k ≡ length names) ⊎ (k ≡ length names → ⊥) → (n : ℕ) × (n < i + 1) × (get_or more k 0 ≡ get_or slots n 0)
      source_of k h (inl e) = (i, omega arith, at_new names (get_or slots i 0) k e)
      source_of k h (inr differ) = let lt : k < length names = omega (arith, h, long, differ) in let q = so.source k lt in (q.0, (let l = q.1 in omega (arith, l)), at_old names (get_or slots i 0) k lt ∙ q.2)

      used_of : (k : ℕ) → k < length more → (k ≡ length names) ⊎ (k ≡ length names → ⊥) → (n : ℕ) × (n < i + 1) × IsRoot into n × (get_or now n 0 ≡ k)
      used_of k h (inl e) = (i, omega arith, root, new ∙ sym e)
      used_of k h (inr differ) = let lt : k < length names = omega (arith, h, long, differ) in let q = so.used k lt in (q.0, (let l = q.1 in omega (arith, l)), q.2, old q.0 q.1 ∙ q.3)

pub numbers_all : (slots into numbers names : List ℕ) (i : ℕ) → i ≡ length into → Numbered slots into numbers names i → Numbers slots into numbers names
numbers_all slots into numbers names i e so = record {
  sized = so.sized ∙ e;
  slot = λ n h. so.slot n (subst (λ v. n < v) (sym e) h);
  rising = λ n m h g. so.rising n m h (subst (λ v. m < v) (sym e) g);
  first = λ n h. so.first n (subst (λ v. n < v) (sym e) h);
  source = λ k h. let q = so.source k h in (q.0, subst (λ v. q.0 < v) e q.1, q.2);
  used = λ k h. let q = so.used k h in (q.0, subst (λ v. q.0 < v) e q.1, q.2, q.3);
}
