-- What a try at a join gives.
use Rattle.std.proofs.Common.{◌≡◌, ◌≢◌, ℕ, suc, ◌+◌, ◌<◌, true, List, length, get_or, set, slice_get, Some, sym, ap, ◌∙◌, subst, inl, inr, arith}
use Rattle.ssa_build.specs.Joins.{Join, Merging, Settled, Tells, WellFormed, roots, walk}
use Rattle.ssa_build.proofs.Merge.{merge_more}
use Rattle.ssa_build.proofs.Walks.{roots_set}
use Rattle.ssa_build.specs.declared.joins.Found.TheVariants.{One, Itself}

module _ (slots : List ℕ) (joins : List Join) (into : List ℕ) (merges : ℕ) (formed : WellFormed slots joins) (merging : Merging slots joins into merges) (i : ℕ) (j : Join) (at : slice_get joins i ≡ Some j) (root : get_or into j.name 0 ≡ j.name) where
  name_in : j.name < length into
  name_in = subst (λ v. j.name < v) (sym merging.sized) (formed.name i j at)

  fewer : (m : ℕ) → m ≢ j.name → suc (roots (set into j.name m) 0) ≡ roots into 0
  fewer m other = roots_set into 0 j.name m name_in (root ∙ (let e : j.name ≡ 0 + j.name = omega arith in e)) (λ e. other (let q : m ≡ j.name = omega (arith, e) in q))

  slot_of : (m : ℕ) → (k : ℕ) × (k < length j.operands) × (walk into merges (get_or j.operands k 0) ≡ m) → get_or slots m 0 ≡ get_or slots j.name 0
  slot_of m h =
      let o = formed.operand i j h.0 at h.1 in
      ap (λ v. get_or slots v 0) (sym h.2) ∙ merging.slot (get_or j.operands h.0 0) (subst (λ v. get_or j.operands h.0 0 < v) (sym merging.sized) o.0) ∙ o.1

  pub settled_one : (m : ℕ) → Tells into merges j (One m) → Settled slots joins i into (set into j.name m) merges true
  settled_one m t = (merge_more slots joins into merges formed merging i j m at root t.0 t.1 t.2 (slot_of m (t.4, t.5, t.6)) t.3, fewer m t.0)

  spare_other : j.spare ≢ j.name
  spare_other e = formed.spare_free i i j j at at e

  pub settled_itself : Tells into merges j Itself → Settled slots joins i into (set into j.name j.spare) merges true
  settled_itself t =
      let s = formed.spare i j at in
      let s_in : j.spare < length into = subst (λ v. j.spare < v) (sym merging.sized) s.0 in
      (merge_more slots joins into merges formed merging i j j.spare at root spare_other s_in (merging.kept j.spare s_in (λ a l h e. formed.spare_free i a j l at h (sym e))) s.1 (λ k h. elim (t k h) [ inl e ↦ inl e | inr e ↦ inl e ]), fewer j.spare spare_other)
