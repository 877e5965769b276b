-- One more merge of joins.
use Rattle.std.proofs.Common.{◌≡◌, ◌≢◌, ◌⊎◌, ℕ, suc, ◌<◌, if◌then◌else◌, List, length, get_or, set, slice_get, Some, nat_eq, refl, sym, ap, ◌∙◌, subst, inl, inr, get_or-set_same, get_or-set_other}
use Rattle.std.proofs.lemmas.List.{length-set}
use Rattle.ssa_build.specs.Joins.{IsReduced, IsRoot, IsWithin, Join, JoinsAtMost, Merged, Merging, WellFormed, walk}
use Rattle.block_graph.proofs.Lists.{compared, some_same, tests_other, tests_same}
use Rattle.ssa_build.proofs.Walks.{walk_merged, walk_root, walk_within}

pub merges_start : (slots : List ℕ) (joins : List Join) (into : List ℕ) → WellFormed slots joins → length into ≡ length slots → ((n : ℕ) → n < length into → IsRoot into n) → Merging slots joins into 0
merges_start slots joins into formed sized roots = record {
  sized = sized;
  within = λ n h. subst (λ v. v < length into) (sym (roots n h)) h;
  rooted = λ n h. roots n h;
  slot = λ n h. refl;
  kept = λ n h free. roots n h;
  joined = λ i j k at moved h. absurd (moved (roots j.name (subst (λ v. j.name < v) (sym sized) (formed.name i j at))));
}

module _ (slots : List ℕ) (joins : List Join) (into : List ℕ) (merges : ℕ) (formed : WellFormed slots joins) (merging : Merging slots joins into merges) where
  module _ (i : ℕ) (j : Join) (m : ℕ) (at : slice_get joins i ≡ Some j) (root : IsRoot into j.name) (other : m ≢ j.name) (m_in : m < length into) (m_root : IsRoot into m) (m_slot : get_or slots m 0 ≡ get_or slots j.name 0) (joins_m : JoinsAtMost into merges j m) where
    abbrev now : List ℕ
    now = set into j.name m

    n_in : j.name < length into
    n_in = subst (λ v. j.name < v) (sym merging.sized) (formed.name i j at)

    back : (n : ℕ) → n < length now → n < length into
    back n h = subst (λ v. n < v) (length-set into j.name m) h

    on : (n : ℕ) → n < length into → n < length now
    on n h = subst (λ v. n < v) (sym (length-set into j.name m)) h

    -- where a name leads now
    moved_to : (n : ℕ) → n < length into → ((walk into merges n ≡ j.name) × (walk now (suc merges) n ≡ m)) ⊎ ((walk into merges n ≡ j.name → ⊥) × (walk now (suc merges) n ≡ walk into merges n))
    moved_to n h = go (compared (walk into merges n) j.name)
      where
        e : walk now (suc merges) n ≡ (if nat_eq (walk into merges n) j.name then m else walk into merges n)
        e = walk_merged into j.name m n_in root m_root other merges n (merging.rooted n h)

        go : (walk into merges n ≡ j.name) ⊎ (walk into merges n ≡ j.name → ⊥) → ((walk into merges n ≡ j.name) × (walk now (suc merges) n ≡ m)) ⊎ ((walk into merges n ≡ j.name → ⊥) × (walk now (suc merges) n ≡ walk into merges n))
        go (inl q) = inl (q, e ∙ ap (λ c. if c then m else walk into merges n) (tests_same (walk into merges n) j.name q))
        go (inr q) = inr (q, e ∙ ap (λ c. if c then m else walk into merges n) (tests_other (walk into merges n) j.name q))

    entry : (n : ℕ) → (n ≡ j.name → ⊥) → get_or now n 0 ≡ get_or into n 0
    entry n differ = get_or-set_other into j.name n m 0 differ

    within : IsWithin now
    within n h = go (compared n j.name)
      where
        go : (n ≡ j.name) ⊎ (n ≡ j.name → ⊥) → get_or now n 0 < length now
        go (inl e) = subst (λ v. v < length now) (sym (ap (λ v. get_or now v 0) e ∙ get_or-set_same into j.name m 0 n_in)) (on m m_in)
        go (inr differ) = subst (λ v. v < length now) (sym (entry n differ)) (on (get_or into n 0) (merging.within n (back n h)))

    rooted : (n : ℕ) → n < length now → IsRoot now (walk now (suc merges) n)
    rooted n h = elim (moved_to n (back n h)) [
      | inl q ↦ subst (λ v. IsRoot now v) (sym q.1) (entry m other ∙ m_root)
      | inr q ↦ subst (λ v. IsRoot now v) (sym q.1) (entry (walk into merges n) q.0 ∙ merging.rooted n (back n h))
    ]

    slot : (n : ℕ) → n < length now → get_or slots (walk now (suc merges) n) 0 ≡ get_or slots n 0
    slot n h = elim (moved_to n (back n h)) [
      | inl q ↦ ap (λ v. get_or slots v 0) q.1 ∙ m_slot ∙ ap (λ v. get_or slots v 0) (sym q.0) ∙ merging.slot n (back n h)
      | inr q ↦ ap (λ v. get_or slots v 0) q.1 ∙ merging.slot n (back n h)
    ]

    kept : (n : ℕ) → n < length now → ((a : ℕ) (l : Join) → slice_get joins a ≡ Some l → l.name ≢ n) → IsRoot now n
    kept n h free = entry n (λ e. free i j at (sym e)) ∙ merging.kept n (back n h) free

    operand_in : (a : ℕ) (l : Join) (k : ℕ) → slice_get joins a ≡ Some l → k < length l.operands → get_or l.operands k 0 < length into
    operand_in a l k h lt = subst (λ v. get_or l.operands k 0 < v) (sym merging.sized) (formed.operand a l k h lt).0

    -- names that led to one name lead to one name
    alike : (x y : ℕ) → x < length into → y < length into → walk into merges x ≡ walk into merges y → walk now (suc merges) x ≡ walk now (suc merges) y
    alike x y hx hy e =
        walk_merged into j.name m n_in root m_root other merges x (merging.rooted x hx) ∙ ap (λ v. if nat_eq v j.name then m else v) e ∙ sym (walk_merged into j.name m n_in root m_root other merges y (merging.rooted y hy))

    here_joined : (k : ℕ) → k < length j.operands → walk now (suc merges) (get_or j.operands k 0) ≡ m
    here_joined k h = elim (moved_to (get_or j.operands k 0) (operand_in i j k at h)) [
      | inl q ↦ q.1
      | inr q ↦ elim (joins_m k h) [ inl p ↦ absurd (q.0 p) | inr p ↦ q.1 ∙ p ]
    ]

    name_now : walk now (suc merges) j.name ≡ m
    name_now = elim (moved_to j.name n_in) [ inl q ↦ q.1 | inr q ↦ absurd (q.0 (walk_root into merges j.name root)) ]

    joined : (a : ℕ) (l : Join) (k : ℕ) → slice_get joins a ≡ Some l → (IsRoot now l.name → ⊥) → k < length l.operands → walk now (suc merges) (get_or l.operands k 0) ≡ walk now (suc merges) l.name
    joined a l k h moved lt = go (compared l.name j.name)
      where
        same : l.name ≡ j.name → l ≡ j
        same e = some_same (sym h ∙ ap (slice_get joins) (formed.distinct a i l j h at e) ∙ at)

        go : (l.name ≡ j.name) ⊎ (l.name ≡ j.name → ⊥) → walk now (suc merges) (get_or l.operands k 0) ≡ walk now (suc merges) l.name
        go (inl e) = subst (λ (v : Join). k < length v.operands → walk now (suc merges) (get_or v.operands k 0) ≡ walk now (suc merges) v.name) (sym (same e)) (λ lt. here_joined k lt ∙ sym name_now) lt
        go (inr differ) = alike (get_or l.operands k 0) l.name (operand_in a l k h lt) (subst (λ v. l.name < v) (sym merging.sized) (formed.name a l h)) (merging.joined a l k h (λ r. moved (entry l.name differ ∙ r)) lt)

    pub merge_more : Merging slots joins (set into j.name m) (suc merges)
    merge_more = record { sized = length-set into j.name m ∙ merging.sized; within = within; rooted = rooted; slot = slot; kept = kept; joined = joined }

-- a root is a name that leads to itself
pub root_from : (slots : List ℕ) (joins : List Join) (into : List ℕ) (merges : ℕ) → Merging slots joins into merges → (n : ℕ) → n < length into → walk into merges n ≡ n → IsRoot into n
root_from slots joins into merges merging n h e = subst (λ v. IsRoot into v) e (merging.rooted n h)

-- where no join that is left joins one name only, each name led to its end is the answer
module _ (slots : List ℕ) (joins : List Join) (into whole : List ℕ) (merges : ℕ) (formed : WellFormed slots joins) (merging : Merging slots joins into merges) (reduced : (i : ℕ) (j : Join) → slice_get joins i ≡ Some j → IsReduced into merges j) (sized : length whole ≡ length slots) (ends : (n : ℕ) → n < length slots → get_or whole n 0 ≡ walk into merges n) where
  within_into : (n : ℕ) → n < length whole → n < length into
  within_into n h = subst (λ v. n < v) (sized ∙ sym merging.sized) h

  at_end : (n : ℕ) → n < length whole → get_or whole n 0 ≡ walk into merges n
  at_end n h = ends n (subst (λ v. n < v) sized h)

  end_in : (n : ℕ) → n < length whole → get_or whole n 0 < length whole
  end_in n h = subst (λ v. v < length whole) (sym (at_end n h)) (subst (λ v. walk into merges n < v) (merging.sized ∙ sym sized) (walk_within into merges n merging.within (within_into n h)))

  root_of : (n : ℕ) → n < length whole → IsRoot whole n → IsRoot into n
  root_of n h r = root_from slots joins into merges merging n (within_into n h) (sym (at_end n h) ∙ r)

  root_too : (n : ℕ) → n < length whole → IsRoot into n → IsRoot whole n
  root_too n h r = at_end n h ∙ walk_root into merges n r

  operand_whole : (i : ℕ) (j : Join) (k : ℕ) → slice_get joins i ≡ Some j → k < length j.operands → get_or j.operands k 0 < length whole
  operand_whole i j k at lt = subst (λ v. get_or j.operands k 0 < v) (sym sized) (formed.operand i j k at lt).0

  name_whole : (i : ℕ) (j : Join) → slice_get joins i ≡ Some j → j.name < length whole
  name_whole i j at = subst (λ v. j.name < v) (sym sized) (formed.name i j at)

  pub merged_whole : Merged slots joins whole
  merged_whole = record {
    sized = sized;
    settled = λ n h. (end_in n h, root_too (get_or whole n 0) (end_in n h) (subst (λ v. IsRoot into v) (sym (at_end n h)) (merging.rooted n (within_into n h))));
    slot = λ n h. ap (λ v. get_or slots v 0) (at_end n h) ∙ merging.slot n (within_into n h);
    kept = λ n h free. root_too n h (merging.kept n (within_into n h) free);
    joined = λ i j k at moved lt. at_end (get_or j.operands k 0) (operand_whole i j k at lt) ∙ merging.joined i j k at (λ r. moved (root_too j.name (name_whole i j at) r)) lt ∙ sym (at_end j.name (name_whole i j at));
    reduced = λ i j m at r all. reduced i j at (root_of j.name (name_whole i j at) r) m (λ k lt. elim (all k lt) [ inl e ↦ inl (sym (at_end (get_or j.operands k 0) (operand_whole i j k at lt)) ∙ e) | inr e ↦ inr (sym (at_end (get_or j.operands k 0) (operand_whole i j k at lt)) ∙ e) ]);
  }
