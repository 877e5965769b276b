-- Numbers of roots are new numbers for the names that are merged into no other.
use Rattle.std.proofs.Common.{◌≡◌, ◌⊎◌, ℕ, zero, suc, ◌<◌, ◌≤◌, List, length, get_or, slice_get, Some, sym, ap, ◌∙◌, subst, inl, inr, arith}
use Rattle.std.proofs.lemmas.Option.{slice_get-get_or, slice_get_within, get_or_from_slice_get}
use Rattle.std.proofs.lemmas.List.{get_or_default}
use Rattle.ssa_build.specs.Forms.{Block, Ssa}
use Rattle.ssa_build.specs.Joins.{IsRoot}
use Rattle.ssa_build.specs.Merging.{replacing}
use Rattle.ssa_build.specs.Numbers.{Numbers}
use Rattle.block_graph.proofs.Lists.{compared, within_or_past}
use Rattle.ssa_build.proofs.Merges.{Merges, Renumbers}
use Rattle.ssa_build.proofs.Naming.{IsNamed}

at_least : (p m : ℕ) → ((i : ℕ) → i < p → i < m) → p ≤ m
at_least zero m h = omega arith
at_least (suc p) m h = let lt = h p (omega arith) in omega (arith, lt)

module _ (slots params entry : ℕ) (g : List Block) (z : Ssa) (into numbers names : List ℕ) (named : IsNamed slots params entry g z) (merges : Merges params z (replacing into)) (sized : length into ≡ length z.names) (numbered : Numbers z.names into numbers names) where
  number : ℕ → ℕ
  number n = get_or numbers n 0

  inside : (n s : ℕ) → slice_get z.names n ≡ Some s → n < length into
  inside n s h = subst (λ v. n < v) (sym sized) (slice_get_within z.names n s h)

  root : (n : ℕ) → n < length into → replacing into n ≡ n → IsRoot into n
  root n lt e = sym (get_or_default into n n 0 lt) ∙ e

  param_in : (i : ℕ) → i < params → i < length into
  param_in i lt = inside i i (named.parameters i lt)

  param_root : (i : ℕ) → i < params → IsRoot into i
  param_root i lt = root i (param_in i lt) (merges.parameter_kept i lt)

  param_number : (i : ℕ) → i < params → get_or numbers i 0 ≡ i
  param_number i lt = numbered.first i (param_in i lt) (λ k h. param_root k (omega (arith, h, lt)))

  slot_of : (n s : ℕ) → replacing into n ≡ n → slice_get z.names n ≡ Some s → slice_get names (get_or numbers n 0) ≡ Some s
  slot_of n s e h =
      let q = numbered.slot n (inside n s h) (root n (inside n s h) e) in
      slice_get-get_or names (get_or numbers n 0) 0 q.0 ∙ ap Some (q.1 ∙ get_or_from_slice_get z.names n s 0 h)

  pub renumbers : Renumbers slots params z.names names (replacing into) (λ n. get_or numbers n 0)
  renumbers = record {
    of_slots = λ k s h.
        let q = numbered.source k (slice_get_within names k s h) in
        let e : get_or names k 0 ≡ s = get_or_from_slice_get names k s 0 h in
        named.of_slots q.0 s (slice_get-get_or z.names q.0 0 (subst (λ v. q.0 < v) sized q.1) ∙ ap Some (sym q.2 ∙ e));
    parameter = λ i lt. (subst (λ v. slice_get names v ≡ Some i) (param_number i lt) (slot_of i i (merges.parameter_kept i lt) (named.parameters i lt)), param_number i lt);
    slot_kept = slot_of;
    above = λ n s e h le. at_least params (get_or numbers n 0) (λ i lt. subst (λ v. v < get_or numbers n 0) (param_number i lt) (numbered.rising i n (omega (arith, lt, le)) (inside n s h) (param_root i lt)));
    apart = λ n m s t e f h k same. go n m s t e f h k same (compared n m) (within_or_past n m);
  }
    where
      go : (n m s t : ℕ) → replacing into n ≡ n → replacing into m ≡ m → slice_get z.names n ≡ Some s → slice_get z.names m ≡ Some t → get_or numbers n 0 ≡ get_or numbers m 0 → (n ≡ m) ⊎ (n ≡ m → ⊥) → (n < m) ⊎ (m ≤ n) → n ≡ m
      go n m s t e f h k same (inl q) w = q
      go n m s t e f h k same (inr differ) (inl lt) = let r = numbered.rising n m lt (inside m t k) (root n (inside n s h) e) in absurd (let no : ⊥ = omega (arith, r, same) in no)
      go n m s t e f h k same (inr differ) (inr le) = let r = numbered.rising m n (omega (arith, le, differ)) (inside n s h) (root m (inside m t k) f) in absurd (let no : ⊥ = omega (arith, r, same) in no)
