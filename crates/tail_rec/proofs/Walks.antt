-- The walk: what it reaches has a block that calls it before it, comes once, and is closed under calls.
use Rattle.std.proofs.Common.{◌≡◌, ◌⊎◌, ℕ, zero, suc, ◌<◌, ◌≤◌, Bool, true, false, cond, List, [], ◌∷◌, length, Option, Some, None, refl, sym, ap, subst, inl, inr, arith}
use Rattle.std.specs.Prelude.{slice_get}
use Rattle.block_forms.specs.Places.{Each, In}
use Rattle.call_forms.specs.declared.forms.CallEnd.{CallEnd}
use Rattle.call_forms.specs.declared.forms.AnfBlock.{AnfBlock}
use Rattle.call_forms.specs.Merged.{end_calls, calls_to, AtCalls}
use Rattle.call_forms.specs.Tight.{DepthAfter}
use Rattle.tail_rec.specs.declared.walk.Reached.{Reached}
use Rattle.tail_rec.specs.Walk.{reached, after_block, after, after_some, firm_labels, walked}
use Rattle.tail_rec.proofs.Lists.{in_place, place_in, in_left, in_right, from_both, at_left, split_at, within, lt_or_same, KeysDiffer, differ_both, same_place, at_most}
use Rattle.tail_rec.proofs.OneCaller.{calls_of, some_call, one_caller, depth_calls, depth_target, called_target}
use Rattle.tail_rec.proofs.Steps.{block_of, How, goes_on, stops, found, end_differs}

-- firm: the blocks that are labels whatever their depth. Every other block has one call at most, and each call is of a block.
pub record Setting (firm : ℕ → Bool) (xs : List AnfBlock) : Type 0 where
  pub few : (b : ℕ) → b < length xs → firm b ≡ false → calls_to b xs ≤ 1
  pub targets : Each (λ x. AtCalls (λ b. b < length xs) x.end) xs

module _ (firm : ℕ → Bool) (xs : List AnfBlock) (s : Setting firm xs) where
  abbrev W : ℕ → List Reached
  W i = walked firm xs i

  -- q's block calls r's block
  pub record Follows (q r : Reached) : Type 0 where
    pub block : AnfBlock
    pub there : slice_get xs q.block ≡ Some block
    pub not_firm : firm r.block ≡ false
    pub how : How block.end q.depth r

  pub record IsRoot (r : Reached) : Type 0 where
    pub is_firm : firm r.block ≡ true
    pub depth : r.depth ≡ 0
    pub label : r.is_label ≡ true
    pub block : r.block < length xs

  -- what calls r stands before it, and the walk has gone on behind it
  pub record Parent (rs : List Reached) (done place : ℕ) (r : Reached) : Type 0 where
    pub at : ℕ
    pub before : at < place
    pub walked : at < done
    pub from : Reached
    pub there : slice_get rs at ≡ Some from
    pub follows : Follows from r

  -- ---- steps

  follows_from : (q r : Reached) → In (after firm xs q) r → Follows q r
  follows_from q r i = by (slice_get xs q.block) refl i
    where
      by : (o : Option AnfBlock) → slice_get xs q.block ≡ o → In (after_block firm q.depth o) r → Follows q r
      by None e i = absurd i
      by (Some x) e i = let f = found firm x.end q.depth r i in record { block = x; there = e; not_firm = f.not_firm; how = f.how }

  how_after : (e : CallEnd) (q r : Reached) → How e q.depth r → (d : ℕ) × DepthAfter e r.block q.depth d
  how_after e q r (goes_on l shallow h) = (r.depth, h)
  how_after e q r (stops l z le h) = (suc q.depth, h)

  follows_calls : (q r : Reached) → Follows q r → 0 < calls_of (slice_get xs q.block) r.block
  follows_calls q r f =
      let h = how_after f.block.end q r f.how in
      subst (λ o. 0 < calls_of o r.block) (sym f.there) (depth_calls f.block.end r.block q.depth h.0 h.1)

  follows_below : (q r : Reached) → Follows q r → r.block < length xs
  follows_below q r f =
      let h = how_after f.block.end q r f.how in
      depth_target (λ b. b < length xs) f.block.end r.block q.depth h.0 (s.targets q.block f.block f.there) h.1

  -- ---- the firm labels

  record InFirst (n : ℕ) (r : Reached) : Type 0 where
    below : r.block < n
    is_firm : firm r.block ≡ true
    depth : r.depth ≡ 0
    label : r.is_label ≡ true

  in_first : (n : ℕ) (r : Reached) → In (firm_labels firm n) r → InFirst n r
  in_first zero r i = absurd i
  in_first (suc n) r i = elim (from_both (firm_labels firm n) (cond (firm n) (reached n 0 true ∷ []) []) r i) [
    | inl j ↦ let f = in_first n r j in let lt = f.below in record { below = omega (arith, lt); is_firm = f.is_firm; depth = f.depth; label = f.label }
    | inr j ↦ last (firm n) refl j
  ]
    where
      last : (t : Bool) → firm n ≡ t → In (cond t (reached n 0 true ∷ []) []) r → InFirst (suc n) r
      last true e (inl q) =
          let same = ap (λ (x : Reached). x.block) q in
          record {
            below = omega (arith, same);
            is_firm = subst (λ b. firm b ≡ true) same e;
            depth = sym (ap (λ (x : Reached). x.depth) q);
            label = sym (ap (λ (x : Reached). x.is_label) q);
          }
      last true e (inr j) = absurd j
      last false e j = absurd j

  first_in : (n b : ℕ) → b < n → firm b ≡ true → In (firm_labels firm n) (reached b 0 true)
  first_in zero b lt e = absurd (let no : ⊥ = omega (arith, lt) in no)
  first_in (suc n) b lt e = elim (lt_or_same b n lt) [
    | inl q ↦ in_left (firm_labels firm n) (cond (firm n) (reached n 0 true ∷ []) []) (reached b 0 true) (first_in n b q e)
    | inr q ↦ in_right (firm_labels firm n) (cond (firm n) (reached n 0 true ∷ []) []) (reached b 0 true)
        (subst (λ t. In (cond t (reached n 0 true ∷ []) []) (reached b 0 true)) (sym (subst (λ n. firm n ≡ true) q e))
        (inl (ap (λ n. reached n 0 true) (sym q))))
  ]

  firsts_differ : (n : ℕ) → KeysDiffer block_of (firm_labels firm n)
  firsts_differ zero = tt
  firsts_differ (suc n) =
      differ_both block_of (firm_labels firm n) (cond (firm n) (reached n 0 true ∷ []) []) (firsts_differ n) (last (firm n)) (λ r u i j e.
      apart (in_first n r i).below (last_is (firm n) u j) e)
    where
      last : (t : Bool) → KeysDiffer block_of (cond t (reached n 0 true ∷ []) [])
      last true = ((λ y i e. i), tt)
      last false = tt

      last_is : (t : Bool) (u : Reached) → In (cond t (reached n 0 true ∷ []) []) u → u.block ≡ n
      last_is true u (inl q) = sym (ap (λ (x : Reached). x.block) q)
      last_is true u (inr j) = absurd j
      last_is false u j = absurd j

      apart : {a b : ℕ} → a < n → b ≡ n → a ≡ b → ⊥
      apart lt q e = omega (arith, lt, q, e)

  -- ---- where what is reached comes from

  pub origin : (i j : ℕ) (r : Reached) → slice_get (walked firm xs i) j ≡ Some r → IsRoot r ⊎ Parent (walked firm xs i) i j r
  origin zero j r e =
      let f = in_first (length xs) r (in_place (firm_labels firm (length xs)) j r e) in
      inl (record { is_firm = f.is_firm; depth = f.depth; label = f.label; block = f.below })
  origin (suc i) j r e = elim (split_at (W i) (after_some firm xs (slice_get (W i) i)) j r e) [
    | inl q ↦ elim (origin i j r q) [
      | inl root ↦ inl root
      | inr p ↦
          let lt = p.walked in
          inr (record {
            at = p.at;
            before = p.before;
            walked = omega (arith, lt);
            from = p.from;
            there = at_left (W i) (after_some firm xs (slice_get (W i) i)) p.at p.from p.there;
            follows = p.follows;
          })
    ]
    | inr q ↦ inr (by (slice_get (W i) i) refl q.0 q.1)
  ]
    where
      by : (o : Option Reached) → slice_get (W i) i ≡ o → length (W i) ≤ j → In (after_some firm xs o) r → Parent (W (suc i)) (suc i) j r
      by None q le h = absurd h
      by (Some p) q le h =
          let lt = within (W i) i p q in
          record {
            at = i;
            before = omega (arith, lt, le);
            walked = omega arith;
            from = p;
            there = at_left (W i) (after_some firm xs (slice_get (W i) i)) i p q;
            follows = follows_from p r h;
          }

  pub reached_below : (i : ℕ) (r : Reached) → In (walked firm xs i) r → r.block < length xs
  reached_below i r h =
      let p = place_in (W i) r h in
      elim (origin i p.0 r p.1) [ inl root ↦ root.block | inr parent ↦ follows_below parent.from r parent.follows ]

  -- ---- each block comes once

  new_differ : (q : Reached) (o : Option AnfBlock) → slice_get xs q.block ≡ o → KeysDiffer block_of (after_block firm q.depth o)
  new_differ q None e = tt
  new_differ q (Some x) e = end_differs firm x.end q.depth (λ b open_block two. no b open_block two)
    where
      many : (m n : ℕ) → 2 ≤ m → m ≤ n → n ≤ 1 → ⊥
      many m n p q r = omega (arith, p, q, r)

      called : (b : ℕ) → 2 ≤ end_calls b x.end → b < length xs
      called b two = called_target (λ b. b < length xs) b x.end (s.targets q.block x e) (omega (arith, two))

      no : (b : ℕ) → firm b ≡ false → 2 ≤ end_calls b x.end → ⊥
      no b open_block two =
          many (end_calls b x.end) (calls_to b xs) two (subst (λ o. calls_of o b ≤ calls_to b xs) e (some_call xs b q.block))
          (s.few b (called b two) open_block)

  -- a block that is reached anew is not among those that are reached
  fresh : (i : ℕ) → KeysDiffer block_of (walked firm xs i) → (o : Option Reached) → slice_get (walked firm xs i) i ≡ o → (x y : Reached)
      → In (walked firm xs i) x → In (after_some firm xs o) y → x.block ≡ y.block → ⊥
  fresh i differ None e x y h k same = k
  fresh i differ (Some q) e x y h k same =
      let f = follows_from q y k in
      let p = place_in (W i) x h in
      elim (origin i p.0 x p.1) [
        | inl root ↦ firm_or_not (subst (λ b. firm b ≡ true) same root.is_firm) f.not_firm
        | inr parent ↦
            let one = one_caller xs y.block parent.from.block q.block
            (subst (λ b. 0 < calls_of (slice_get xs parent.from.block) b) same (follows_calls parent.from x parent.follows)) (follows_calls q y f)
            (s.few y.block (follows_below q y f) f.not_firm) in
            let place = same_place block_of (W i) parent.at i parent.from q differ parent.there e one in
            let lt = parent.walked in
            omega (arith, place, lt)
      ]
    where
      firm_or_not : {b : Bool} → b ≡ true → b ≡ false → ⊥
      firm_or_not p q = cc

  pub walk_differs : (i : ℕ) → KeysDiffer block_of (walked firm xs i)
  walk_differs zero = firsts_differ (length xs)
  walk_differs (suc i) =
      differ_both block_of (W i) (after_some firm xs (slice_get (W i) i)) (walk_differs i) (new (slice_get (W i) i))
      (fresh i (walk_differs i) (slice_get (W i) i) refl)
    where
      new : (o : Option Reached) → KeysDiffer block_of (after_some firm xs o)
      new None = tt
      new (Some q) = new_differ q (slice_get xs q.block) refl

  pub walk_short : (i : ℕ) → length (walked firm xs i) ≤ length xs
  walk_short i = at_most block_of (length xs) (W i) (walk_differs i) (reached_below i)

  -- ---- closed under calls

  pub closed_within : (i j : ℕ) (q r : Reached) → j < i → slice_get (walked firm xs i) j ≡ Some q → In (after firm xs q) r → In (walked firm xs i) r
  closed_within zero j q r lt e h = absurd (let no : ⊥ = omega (arith, lt) in no)
  closed_within (suc i) j q r lt e h = by (slice_get (W i) i) refl (split_at (W i) (after_some firm xs (slice_get (W i) i)) j q e)
      (closed_within i j q r)
    where
      past : (o : Option Reached) → slice_get (W i) i ≡ o → (length (W i) ≤ j) → In (after_some firm xs o) q → ⊥
      past None e le k = k
      past (Some p) e le k = let less = within (W i) i p e in omega (arith, less, le, lt)

      last : (o : Option Reached) → slice_get (W i) i ≡ o → o ≡ Some q → In (after_some firm xs o) r
      last o e same = subst (λ o. In (after_some firm xs o) r) (sym same) h

      by : (o : Option Reached) → slice_get (W i) i ≡ o
          → (slice_get (W i) j ≡ Some q) ⊎ ((length (W i) ≤ j) × In (after_some firm xs (slice_get (W i) i)) q)
          → (j < i → slice_get (W i) j ≡ Some q → In (after firm xs q) r → In (W i) r) → In (W (suc i)) r
      by o e (inr k) further = absurd (past (slice_get (W i) i) refl k.0 k.1)
      by o e (inl at) further = elim (lt_or_same j i lt) [
        | inl less ↦ in_left (W i) (after_some firm xs (slice_get (W i) i)) r (further less at h)
        | inr same ↦ in_right (W i) (after_some firm xs (slice_get (W i) i)) r
            (last (slice_get (W i) i) refl (subst (λ j. slice_get (W i) j ≡ Some q) same at))
      ]

  -- ---- all that is reached

  abbrev pub all : List Reached
  all = walked firm xs (length xs)

  pub closed : (q r : Reached) → In (walked firm xs (length xs)) q → In (after firm xs q) r → In (walked firm xs (length xs)) r
  closed q r i h =
      let p = place_in (W (length xs)) q i in
      let lt = within (W (length xs)) p.0 q p.1 in
      let short = walk_short (length xs) in
      closed_within (length xs) p.0 q r (omega (arith, lt, short)) p.1 h

  stays_reached : (i : ℕ) (r : Reached) → In (firm_labels firm (length xs)) r → In (walked firm xs i) r
  stays_reached zero r h = h
  stays_reached (suc i) r h = in_left (W i) (after_some firm xs (slice_get (W i) i)) r (stays_reached i r h)

  pub firm_reached : (b : ℕ) → b < length xs → firm b ≡ true → In (walked firm xs (length xs)) (reached b 0 true)
  firm_reached b lt e = stays_reached (length xs) (reached b 0 true) (first_in (length xs) b lt e)

  -- ---- depths

  pub record IsShallow (r : Reached) : Type 0 where
    pub shallow : r.depth < 16
    pub of_label : r.is_label ≡ true → r.depth ≡ 0

  step_shallow : (e : CallEnd) (q r : Reached) → q.depth < 16 → How e q.depth r → IsShallow r
  step_shallow e q r lt (goes_on l shallow h) = record { shallow = shallow lt; of_label = λ t. absurd (both l t) }
    where
      both : {b : Bool} → b ≡ false → b ≡ true → ⊥
      both p q = cc
  step_shallow e q r lt (stops l z le h) = record { shallow = omega (arith, z); of_label = λ t. z }

  pub all_shallow : (i : ℕ) (r : Reached) → In (walked firm xs i) r → IsShallow r
  all_shallow zero r h =
      let f = in_first (length xs) r h in
      let z = f.depth in
      record { shallow = omega (arith, z); of_label = λ t. z }
  all_shallow (suc i) r h = elim (from_both (W i) (after_some firm xs (slice_get (W i) i)) r h) [
    | inl j ↦ all_shallow i r j
    | inr j ↦ by (slice_get (W i) i) refl j (all_shallow i)
  ]
    where
      by : (o : Option Reached) → slice_get (W i) i ≡ o → In (after_some firm xs o) r → ((q : Reached) → In (W i) q → IsShallow q) → IsShallow r
      by None e j rest = absurd j
      by (Some q) e j rest =
          let f = follows_from q r j in step_shallow f.block.end q r (rest q (in_place (W i) i q e)).shallow f.how
