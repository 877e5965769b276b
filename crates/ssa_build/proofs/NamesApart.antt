-- The names of the full form are apart and belong to their slots.
use Rattle.std.proofs.Common.{◌≡◌, ◌≢◌, ◌⊎◌, ℕ, zero, suc, ◌+◌, ◌*◌, ◌^◌, ◌<◌, ◌≤◌, Bool, true, false, if◌then◌else◌, List, [], ◌++◌, length, length-append, get_or, slice_get, Option, Some, None, refl, sym, ap, ◌∙◌, subst, inl, inr, arith}
use Rattle.std.proofs.lemmas.Option.{slice_get_within}
use Rattle.std.proofs.Math.Nat.{mul-le-mul_right}
use Rattle.ssa_build.specs.declared.layout.Layout.{Layout}
use Rattle.ssa_build.specs.Forms.{Block, Term}
use Rattle.ssa_build.specs.Layout.{IsLayout}
use Rattle.block_forms.specs.Places.{In}
use Rattle.block_graph.specs.Ranges.{count_from}
use Rattle.ssa_build.specs.Names.{NamesBelow, assigned, has_phi, names_below, next_name, phi_slots, set_slots}
use Rattle.block_graph.proofs.Ranges.{from_count}
use Rattle.block_graph.proofs.Lists.{compared, from_both, from_filter, in_place, tests_other, within_or_past}
use Rattle.ssa_build.proofs.Ordered.{at_count, at_left, at_right, length_count, map_count, passed_at, passed_few}
use Rattle.ssa_build.proofs.Premises.{Numbering, SetsBelow}

module _ (l : Layout) (live : ℕ → ℕ → Bool) (g : List Block) where
  abbrev N : ℕ → List ℕ
  N = names_below l live g

  abbrev first : ℕ → ℕ
  first b = length (N b)

  abbrev added : ℕ → List ℕ
  added b = phi_slots l live b l.slots ++ assigned (slice_get g b)

  -- what a block adds stands behind the names of the blocks before it
  at_added : (n b k s : ℕ) → b < n → slice_get (added b) k ≡ Some s → slice_get (N n) (first b + k) ≡ Some s
  at_added zero b k s lt h = absurd (let no : ⊥ = omega (arith, lt) in no)
  at_added (suc n) b k s lt h = go (compared b n) (λ q. at_added n b k s q h)
    where
      go : (b ≡ n) ⊎ (b ≡ n → ⊥) → (b < n → slice_get (N n) (first b + k) ≡ Some s) → slice_get (N n ++ added n) (first b + k) ≡ Some s
      go (inl e) rest = ap (λ v. slice_get (N n ++ added n) (first v + k)) e ∙ at_right (N n) (added n) k ∙ ap (λ v. slice_get (added v) k) (sym e) ∙ h
      go (inr differ) rest = let r = rest (omega (arith, lt, differ)) in at_left (N n) (added n) (first b + k) (slice_get_within (N n) (first b + k) s r) ∙ r

  pub at_slot : (n s : ℕ) → s < l.slots → slice_get (N n) s ≡ Some s
  at_slot zero s lt = at_count 0 l.slots s lt ∙ ap Some (let e : 0 + s ≡ s = omega arith in e)
  at_slot (suc n) s lt = let r = at_slot n s lt in at_left (N n) (added n) s (slice_get_within (N n) s s r) ∙ r

  first_more : (b : ℕ) → first (suc b) ≡ first b + (length (phi_slots l live b l.slots) + length (assigned (slice_get g b)))
  first_more b = length-append (N b) (added b) ∙ ap (λ v. first b + v) (length-append (phi_slots l live b l.slots) (assigned (slice_get g b)))

  rising : (b c : ℕ) → b ≤ c → first b ≤ first c
  rising b zero le = let e : b ≡ 0 = omega (arith, le) in subst (λ v. first v ≤ first 0) (sym e) (omega arith)
  rising b (suc c) le = go (compared b (suc c)) (λ q. rising b c q)
    where
      go : (b ≡ suc c) ⊎ (b ≡ suc c → ⊥) → (b ≤ c → first b ≤ first c) → first b ≤ first (suc c)
      go (inl e) rest = subst (λ v. first b ≤ first v) e (omega arith)
      go (inr differ) rest = let r = rest (omega (arith, le, differ)) in let m = first_more c in omega (arith, r, m)

  slots_first : (b : ℕ) → l.slots ≤ first b
  slots_first b = let r = rising 0 b (omega arith) in let e = length_count 0 l.slots in omega (arith, r, e)

  same_block : (b c n : ℕ) → first b ≤ n → n < first (suc b) → first c ≤ n → n < first (suc c) → b ≡ c
  same_block b c n lb ub lc uc = go (compared b c) (within_or_past b c)
    where
      go : (b ≡ c) ⊎ (b ≡ c → ⊥) → (b < c) ⊎ (c ≤ b) → b ≡ c
      go (inl e) w = e
      go (inr differ) (inl lt) = let r = rising (suc b) c (omega (arith, lt)) in absurd (let f : ⊥ = omega (arith, r, ub, lc) in f)
      go (inr differ) (inr le) = let r = rising (suc c) b (omega (arith, le, differ)) in absurd (let f : ⊥ = omega (arith, r, uc, lb) in f)

  -- ---- φs

  phi_at : (b s : ℕ) → s < l.slots → has_phi l live b s ≡ true → slice_get (added b) (length (phi_slots l live b s)) ≡ Some s
  phi_at b s lt h = passed_at (has_phi l live b) l.slots s (assigned (slice_get g b)) lt h

  phi_under : (b s : ℕ) → s < l.slots → has_phi l live b s ≡ true → next_name l live g b s < first (suc b)
  phi_under b s lt h =
      let w = slice_get_within (added b) (length (phi_slots l live b s)) s (phi_at b s lt h) in
      let m = length-append (N b) (added b) in
      omega (arith, w, m)

  -- ---- assignments

  set_at : (b : ℕ) (x : Block) (a : ℕ × Term) → slice_get g b ≡ Some x → x.set ≡ Some a → slice_get (added b) (length (phi_slots l live b l.slots)) ≡ Some a.0
  set_at b x a h e =
      ap (slice_get (added b)) (let q : length (phi_slots l live b l.slots) ≡ length (phi_slots l live b l.slots) + 0 = omega arith in q)
      ∙ at_right (phi_slots l live b l.slots) (assigned (slice_get g b)) 0 ∙ ap (λ o. slice_get (assigned o) 0) h ∙ ap (λ o. slice_get (set_slots o) 0) e

  set_under : (b : ℕ) (x : Block) (a : ℕ × Term) → slice_get g b ≡ Some x → x.set ≡ Some a → next_name l live g b l.slots < first (suc b)
  set_under b x a h e =
      let w = slice_get_within (added b) (length (phi_slots l live b l.slots)) a.0 (set_at b x a h e) in
      let m = length-append (N b) (added b) in
      omega (arith, w, m)

  phi_set_differ : (b s : ℕ) → s < l.slots → has_phi l live b s ≡ true → next_name l live g b s ≡ next_name l live g b l.slots → ⊥
  phi_set_differ b s lt h e =
      let w = slice_get_within (phi_slots l live b l.slots ++ []) (length (phi_slots l live b s)) s (passed_at (has_phi l live b) l.slots s [] lt h) in
      let m = length-append (phi_slots l live b l.slots) [] in
      omega (arith, w, m, e)

  -- ---- all names belong to slots

  in_names : SetsBelow l.slots g → (n s : ℕ) → In (N n) s → s < l.slots
  in_names below zero s i = let r = from_count 0 l.slots s i in let lt = r.1 in omega (arith, lt)
  in_names below (suc n) s i = go (from_both (N n) (added n) s i) (λ j. in_names below n s j)
    where
      set : (o : Option Block) → slice_get g n ≡ o → In (assigned o) s → s < l.slots
      set None e j = absurd j
      set (Some x) e j = by x.set refl j
        where
          by : (a : Option (ℕ × Term)) → x.set ≡ a → In (set_slots a) s → s < l.slots
          by None q k = absurd k
          by (Some a) q (inl k) = subst (λ v. v < l.slots) k (below n x a e q)
          by (Some a) q (inr k) = absurd k

      go : In (N n) s ⊎ In (added n) s → (In (N n) s → s < l.slots) → s < l.slots
      go (inl j) rest = rest j
      go (inr j) rest = elim (from_both (phi_slots l live n l.slots) (assigned (slice_get g n)) s j) [
        | inl k ↦ let r = from_count 0 l.slots s (from_filter (has_phi l live n) (count_from 0 l.slots) s k).0 in let lt = r.1 in omega (arith, lt)
        | inr k ↦ set (slice_get g n) refl k
      ]

  -- ---- how many they are

  set_few : (o : Option Block) → length (assigned o) ≤ 1
  set_few None = omega arith
  set_few (Some x) = go x.set
    where
      go : (a : Option (ℕ × Term)) → length (set_slots a) ≤ 1
      go None = omega arith
      go (Some a) = omega arith

  few : (n : ℕ) → first n ≤ l.slots + n * (l.slots + 1)
  few zero = let e = length_count 0 l.slots in let q : 0 * (l.slots + 1) ≡ 0 = grind arith in omega (arith, e, q)
  few (suc n) =
      let r = few n in
      let m = first_more n in
      let p = passed_few (has_phi l live n) l.slots in
      let a = set_few (slice_get g n) in
      let q : suc n * (l.slots + 1) ≡ n * (l.slots + 1) + (l.slots + 1) = grind arith in
      omega (arith, r, m, p, a, q)

  -- the names fit, also while those of a block are added
  pub names_fit : IsLayout l → (n : ℕ) → n < l.blocks → first n + l.slots < 2 ^ 32
  names_fit is n lt =
      let r = few n in
      let le : suc n * (l.slots + 1) ≤ l.blocks * (l.slots + 1) = mul-le-mul_right (l.slots + 1) (let q : suc n ≤ l.blocks = omega (arith, lt) in q) in
      let q : suc n * (l.slots + 1) ≡ n * (l.slots + 1) + (l.slots + 1) = grind arith in
      let s = is.short in
      omega (arith, r, le, q, s)

  pub all_fit : IsLayout l → first l.blocks < 2 ^ 32
  all_fit is = let r = few l.blocks in let s = is.short in omega (arith, r, s)

  module _ (slots : List ℕ) (phis : List (List ℕ)) (sets : List ℕ) (names : NamesBelow l live g l.blocks slots phis sets) (sized : length g ≡ l.blocks) where
    abbrev phi_name : ℕ → ℕ → ℕ
    phi_name b s = get_or (get_or phis b []) s 0

    abbrev set_name : ℕ → ℕ
    set_name b = get_or sets b 0

    block_in : (b : ℕ) (x : Block) → slice_get g b ≡ Some x → b < l.blocks
    block_in b x h = subst (λ v. b < v) sized (slice_get_within g b x h)

    pub phi_is : (b s : ℕ) → b < l.blocks → s < l.slots → phi_name b s ≡ next_name l live g b s
    phi_is b s lt in' = ap (λ r. get_or r s 0) (names.phis_are b lt) ∙ map_count (next_name l live g b) l.slots s in'

    pub set_is : (b : ℕ) → b < l.blocks → set_name b ≡ next_name l live g b l.slots
    set_is b lt = names.sets_are b lt

    pub slot_named : (s : ℕ) → s < l.slots → slice_get slots s ≡ Some s
    slot_named s lt = ap (λ v. slice_get v s) names.slots_are ∙ at_slot l.blocks s lt

    pub phi_high : (b s : ℕ) → b < l.blocks → s < l.slots → l.slots ≤ phi_name b s
    phi_high b s lt in' = let e = phi_is b s lt in' in let r = slots_first b in omega (arith, e, r)

    pub set_high : (b : ℕ) → b < l.blocks → l.slots ≤ set_name b
    set_high b lt = let e = set_is b lt in let r = slots_first b in omega (arith, e, r)

    module _ (bounded : (b s : ℕ) → live b s ≡ true → s < l.slots) (below : SetsBelow l.slots g) where
      has : (b s : ℕ) → live b s ≡ true → b ≢ l.entry → has_phi l live b s ≡ true
      has b s h other = ap (λ c. if c then false else live b s) (tests_other b l.entry other) ∙ h

      phi_slot : (b s : ℕ) → b < l.blocks → live b s ≡ true → b ≢ l.entry → slice_get slots (phi_name b s) ≡ Some s
      phi_slot b s lt h other =
          let in' = bounded b s h in
          ap (λ v. slice_get v (phi_name b s)) names.slots_are ∙ ap (slice_get (N l.blocks)) (phi_is b s lt in') ∙ at_added l.blocks b (length (phi_slots l live b s)) s lt (phi_at b s in' (has b s h other))

      set_slot : (b : ℕ) (x : Block) (a : ℕ × Term) → slice_get g b ≡ Some x → x.set ≡ Some a → slice_get slots (set_name b) ≡ Some a.0
      set_slot b x a h e =
          let lt = block_in b x h in
          ap (λ v. slice_get v (set_name b)) names.slots_are ∙ ap (slice_get (N l.blocks)) (set_is b lt) ∙ at_added l.blocks b (length (phi_slots l live b l.slots)) a.0 lt (set_at b x a h e)

      pub phis_apart : (b c s t : ℕ) → b < l.blocks → c < l.blocks → live b s ≡ true → live c t ≡ true → b ≢ l.entry → c ≢ l.entry → phi_name b s ≡ phi_name c t → b ≡ c
      phis_apart b c s t hb hc ls lt' ob oc e =
          let p = phi_is b s hb (bounded b s ls) in
          let q = phi_is c t hc (bounded c t lt') in
          let u = phi_under b s (bounded b s ls) (has b s ls ob) in
          let v = phi_under c t (bounded c t lt') (has c t lt' oc) in
          same_block b c (next_name l live g b s) (omega arith) u (omega (arith, p, q, e)) (omega (arith, p, q, e, v))

      sets_apart : (b c : ℕ) (x y : Block) (p q : ℕ × Term) → slice_get g b ≡ Some x → slice_get g c ≡ Some y → x.set ≡ Some p → y.set ≡ Some q → set_name b ≡ set_name c → b ≡ c
      sets_apart b c x y p q hb hc e f same =
          let m = set_is b (block_in b x hb) in
          let n = set_is c (block_in c y hc) in
          let u = set_under b x p hb e in
          let v = set_under c y q hc f in
          same_block b c (next_name l live g b l.slots) (omega arith) u (omega (arith, m, n, same)) (omega (arith, m, n, same, v))

      phi_sets_apart : (b c : ℕ) (x y : Block) (s : ℕ) (p : ℕ × Term) → slice_get g b ≡ Some x → slice_get g c ≡ Some y → live b s ≡ true → b ≢ l.entry → y.set ≡ Some p → phi_name b s ≡ set_name c → ⊥
      phi_sets_apart b c x y s p hb hc ls other e same =
          let m = phi_is b s (block_in b x hb) (bounded b s ls) in
          let n = set_is c (block_in c y hc) in
          let u = phi_under b s (bounded b s ls) (has b s ls other) in
          let v = set_under c y p hc e in
          let bc : b ≡ c = same_block b c (next_name l live g b s) (omega arith) u (omega (arith, m, n, same)) (omega (arith, m, n, same, v)) in
          phi_set_differ b s (bounded b s ls) (has b s ls other) (sym m ∙ same ∙ n ∙ ap (λ v. next_name l live g v l.slots) (sym bc))

      pub numbering : l.params ≤ l.slots → Numbering l.slots l.params l.entry g live phi_name set_name slots
      numbering params_first = record {
        parameter = λ i lt. slot_named i (omega (arith, lt, params_first));
        of_slots = λ n s h. in_names below l.blocks s (in_place (N l.blocks) n s (ap (λ v. slice_get v n) (sym names.slots_are) ∙ h));
        of_phi = λ b x s h ls other. (phi_slot b s (block_in b x h) ls other, (let r = phi_high b s (block_in b x h) (bounded b s ls) in omega (arith, r, params_first)));
        of_set = λ b x a h e. (set_slot b x a h e, (let r = set_high b (block_in b x h) in omega (arith, r, params_first)));
        phi_apart = λ b c x y s t hb hc ls lt ob oc e. phis_apart b c s t (block_in b x hb) (block_in c y hc) ls lt ob oc e;
        set_apart = sets_apart;
        phi_set_apart = phi_sets_apart;
      }
