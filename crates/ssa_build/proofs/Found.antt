-- What the operands so far tell.
use Rattle.std.proofs.Common.{◌≡◌, ◌≢◌, ◌⊎◌, ℕ, ◌+◌, ◌<◌, List, length, get_or, Option, Some, None, sym, ap, ◌∙◌, subst, inl, inr, arith}
use Rattle.ssa_build.specs.Joins.{IsRoot, Join, JoinsAtMost, walk}
use Rattle.block_graph.proofs.Lists.{compared}

abbrev pub at_most : List ℕ → ℕ → Join → ℕ → ℕ → Type 0
at_most into merges j m i = (k : ℕ) → k < i → (walk into merges (get_or j.operands k 0) ≡ j.name) ⊎ (walk into merges (get_or j.operands k 0) ≡ m)

-- among the first i operands
abbrev pub SoFar : List ℕ → ℕ → Join → ℕ → Option ℕ → Type 0
SoFar into merges j i None = (k : ℕ) → k < i → walk into merges (get_or j.operands k 0) ≡ j.name
SoFar into merges j i (Some m) = (m ≢ j.name) × (m < length into) × IsRoot into m × at_most into merges j m i × (k : ℕ) × (k < i) × (walk into merges (get_or j.operands k 0) ≡ m)

module _ (into : List ℕ) (merges : ℕ) (j : Join) (i r : ℕ) (is : walk into merges (get_or j.operands i 0) ≡ r) where
  split : (k : ℕ) → k < i + 1 → (k ≡ i) ⊎ (k < i)
  split k lt = elim (compared k i) [ inl e ↦ inl e | inr differ ↦ inr (omega (arith, lt, differ)) ]

  at_i : (k : ℕ) → k ≡ i → walk into merges (get_or j.operands k 0) ≡ r
  at_i k e = ap (λ v. walk into merges (get_or j.operands v 0)) e ∙ is

  pub next_none : (o : Option ℕ) → o ≡ None → SoFar into merges j i o → r ≢ j.name → r < length into → IsRoot into r → SoFar into merges j (i + 1) (Some r)
  next_none o e so differ lt root = (differ, lt, root, (λ k h. elim (split k h) [ inl q ↦ inr (at_i k q) | inr q ↦ inl (so' k q) ]), i, omega arith, is)
    where
      so' : SoFar into merges j i None
      so' = subst (λ v. SoFar into merges j i v) e so

  pub next_some : (o : Option ℕ) (m : ℕ) → o ≡ Some m → SoFar into merges j i o → r ≡ m → SoFar into merges j (i + 1) (Some m)
  next_some o m e so same = (so'.0, so'.1, so'.2, (λ k h. elim (split k h) [ inl q ↦ inr (at_i k q ∙ same) | inr q ↦ so'.3 k q ]), so'.4, omega (arith, so'.5), so'.6)
    where
      so' : SoFar into merges j i (Some m)
      so' = subst (λ v. SoFar into merges j i v) e so

  pub next_same : (o : Option ℕ) → SoFar into merges j i o → r ≡ j.name → SoFar into merges j (i + 1) o
  next_same None so same = λ k h. elim (split k h) [ inl q ↦ at_i k q ∙ same | inr q ↦ so k q ]
  next_same (Some m) so same = (so.0, so.1, so.2, (λ k h. elim (split k h) [ inl q ↦ inl (at_i k q ∙ same) | inr q ↦ so.3 k q ]), so.4, omega (arith, so.5), so.6)

  pub two : (o : Option ℕ) (m : ℕ) → o ≡ Some m → SoFar into merges j i o → i < length j.operands → r ≢ j.name → m ≢ r → (w : ℕ) → JoinsAtMost into merges j w → ⊥
  two o m e so lt differ other w joins = elim (joins i lt) [ inl q ↦ differ (sym is ∙ q) | inr q ↦ first q (joins so'.4 (omega (arith, so'.5, lt))) ]
    where
      so' : SoFar into merges j i (Some m)
      so' = subst (λ v. SoFar into merges j i v) e so

      first : walk into merges (get_or j.operands i 0) ≡ w → (walk into merges (get_or j.operands so'.4 0) ≡ j.name) ⊎ (walk into merges (get_or j.operands so'.4 0) ≡ w) → ⊥
      first q (inl p) = so'.0 (sym so'.6 ∙ p)
      first q (inr p) = other (sym so'.6 ∙ p ∙ sym q ∙ is)
