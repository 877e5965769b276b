-- The full form is named.
use Rattle.std.proofs.Common.{◌≡◌, ◌⊎◌, ℕ, ◌+◌, ◌<◌, ◌≤◌, Bool, true, false, if◌then◌else◌, List, [], ◌∷◌, map, length, slice_get, Option, Some, None, nat_eq, refl, sym, ap, ◌∙◌, subst, inl, inr, arith}
use Rattle.std.proofs.lemmas.Option.{slice_get_within}
use Rattle.std.specs.List.{filter}
use Rattle.block_forms.specs.Forms.{at_key}
use Rattle.block_forms.specs.Named.{leads}
use Rattle.block_forms.specs.Places.{first_of}
use Rattle.ssa_build.specs.Forms.{Block, Branch, End, Fail, Jump, Phi, Return, Ssa, SsaBlock, Term}
use Rattle.block_forms.specs.Places.{In}
use Rattle.block_graph.specs.Ranges.{count_from}
use Rattle.block_forms.specs.Live.{LiveEnd, LiveSet}
use Rattle.ssa_build.specs.Maximal.{after_block, after_set, entry_name, full, full_block, full_phi, full_phis, live_slots, name_after, named_end, named_set, sources}
use Rattle.block_graph.proofs.Ranges.{in_count}
use Rattle.ssa_build.proofs.Counting.{at_numbered, distinct_count, distinct_map, length_numbered}
use Rattle.ssa_build.proofs.Edges.{edge_from_leads, leads_from_edge}
use Rattle.block_graph.proofs.Lists.{compared, from_filter, from_lookup, from_map, in_filter, in_map, other_number, some_same, tests_other, tests_same}
use Rattle.ssa_build.proofs.Lists.{in_lookup}
use Rattle.ssa_build.proofs.Naming.{Assigns, Differ, Edge, Flows, IsNamed, IsPhi, Leads, SameEnd, SameSet, Sets, Spelled, exit_name, is_slot, renewed}
use Rattle.ssa_build.proofs.Premises.{Closed, Numbering}

-- a filtered list, its elements not mapped
pub distinct_filter_plain : {X : Type 0} (p : X → Bool) (xs : List X) → Differ xs → Differ (filter p xs)
distinct_filter_plain p [] d = tt
distinct_filter_plain p (y ∷ ys) d = go (p y) (distinct_filter_plain p ys d.1)
  where
    go : (c : Bool) → Differ (filter p ys) → Differ (Rattle.std.proofs.Common.cond c (y ∷ filter p ys) (filter p ys))
    go true rest = ((λ i. d.0 (from_filter p ys y i).0), rest)
    go false rest = rest

module _ (slots params entry : ℕ) (g : List Block) (live : ℕ → ℕ → Bool) (phi_name : ℕ → ℕ → ℕ) (set_name : ℕ → ℕ) (names : List ℕ) (closed : Closed slots params entry g live) (numbering : Numbering slots params entry g live phi_name set_name names) where
  abbrev F : ℕ → Block → SsaBlock
  F = full_block slots entry g live phi_name set_name

  abbrev Z : Ssa
  Z = full slots entry g live phi_name set_name names

  abbrev ent : ℕ → ℕ → ℕ
  ent = entry_name slots entry g live phi_name set_name

  abbrev out : ℕ → ℕ → ℕ
  out = name_after slots entry g live phi_name set_name

  abbrev here : ℕ → List ℕ
  here = live_slots slots entry g live phi_name set_name

  abbrev from : ℕ → List ℕ
  from = sources slots entry g live phi_name set_name

  -- what holds of each full block holds of each block of the form
  each : (P : ℕ → SsaBlock → Type 0) → ((b : ℕ) (x : Block) → slice_get g b ≡ Some x → P b (F b x)) → (b : ℕ) (y : SsaBlock) → slice_get Z.blocks b ≡ Some y → P b y
  each P h b y at = let r = at_numbered F 0 b g y at in subst (λ w. P b w) (ap (λ v. F v r.0) (let q : b ≡ 0 + b = omega arith in q) ∙ r.2) (h b r.0 r.1)

  -- ---- maps

  in_here : (b s : ℕ) → live b s ≡ true → In (here b) s
  in_here b s h = in_filter (live b) (count_from 0 slots) s (in_count 0 slots s (omega arith) (let q : s < 0 + slots = let lt = closed.bounded b s h in omega (arith, lt) in q)) h

  from_here : (b s : ℕ) → In (here b) s → live b s ≡ true
  from_here b s i = (from_filter (live b) (count_from 0 slots) s i).1

  distinct_here : (b : ℕ) → Differ (here b)
  distinct_here b = distinct_filter_plain (live b) (count_from 0 slots) (distinct_count 0 slots)

  keys_here : (b : ℕ) (xs : List ℕ) → map first_of (map (λ s. (s, ent b s)) xs) ≡ xs
  keys_here b [] = refl
  keys_here b (x ∷ xs) = ap (λ l. x ∷ l) (keys_here b xs)

  map_slots : (b : ℕ) (x : Block) → Differ (map first_of (F b x).map)
  map_slots b x = subst (λ l. Differ l) (sym (keys_here b (here b))) (distinct_here b)

  -- a live slot has its name in the map, and no other slot has one
  maps : (b : ℕ) (x : Block) (s : ℕ) → live b s ≡ true → at_key (F b x).map s ≡ Some (ent b s)
  maps b x s h = in_lookup (F b x).map (s, ent b s) (map_slots b x) (in_map (λ s. (s, ent b s)) (here b) s (in_here b s h))

  maps_back : (b : ℕ) (x : Block) (s n : ℕ) → at_key (F b x).map s ≡ Some n → (live b s ≡ true) × (ent b s ≡ n)
  maps_back b x s n e =
      let r = from_map (λ s. (s, ent b s)) (here b) (s, n) (from_lookup (F b x).map s n e) in
      let q : r.0 ≡ s = ap (λ (p : ℕ × ℕ). p.0) r.2 in
      (from_here b s (subst (λ v. In (here b) v) q r.1), ap (ent b) (sym q) ∙ ap (λ (p : ℕ × ℕ). p.1) r.2)

  at_entry : (b s : ℕ) → b ≡ entry → ent b s ≡ s
  at_entry b s e = ap (λ c. if c then s else phi_name b s) (tests_same b entry e)

  elsewhere : (b s : ℕ) → (b ≡ entry → ⊥) → ent b s ≡ phi_name b s
  elsewhere b s e = ap (λ c. if c then s else phi_name b s) (tests_other b entry e)

  -- the name of a live slot belongs to it
  of_slot : (b : ℕ) (x : Block) (s : ℕ) → slice_get g b ≡ Some x → live b s ≡ true → slice_get names (ent b s) ≡ Some s
  of_slot b x s at h = go (compared b entry)
    where
      go : (b ≡ entry) ⊎ (b ≡ entry → ⊥) → slice_get names (ent b s) ≡ Some s
      go (inl e) = ap (slice_get names) (at_entry b s e) ∙ numbering.parameter s (closed.entry_only s (subst (λ v. live v s ≡ true) e h))
      go (inr e) = ap (slice_get names) (elsewhere b s e) ∙ (numbering.of_phi b x s at h e).0

  -- ---- where a block ends

  exits : (b : ℕ) (x : Block) (s : ℕ) → slice_get g b ≡ Some x → (Assigns x.set s ⊎ (live b s ≡ true)) → exit_name names (F b x) s ≡ Some (out b s)
  exits b x s at h = subst (λ o. exit_name names (F b x) s ≡ Some (after_block slots entry g live phi_name set_name o b s)) (sym at) (go x.set refl h)
    where
      go : (a : Option (ℕ × Term)) → x.set ≡ a → (Assigns a s ⊎ (live b s ≡ true)) → renewed names (named_set slots entry g live phi_name set_name b a) (at_key (F b x).map) s ≡ Some (after_set slots entry g live phi_name set_name a b s)
      go None e (inl h) = absurd h
      go None e (inr h) = maps b x s h
      go (Some a) e h = subst (λ (o : Option ℕ). (if is_slot o s then Some (set_name b) else at_key (F b x).map s) ≡ Some (if nat_eq a.0 s then set_name b else ent b s)) (sym (numbering.of_set b x a at e).0) (pick (nat_eq a.0 s) refl h)
        where
          pick : (c : Bool) → nat_eq a.0 s ≡ c → ((a.0 ≡ s) ⊎ (live b s ≡ true)) → (if c then Some (set_name b) else at_key (F b x).map s) ≡ Some (if c then set_name b else ent b s)
          pick true q h = refl
          pick false q (inl h) = absurd (other_number a.0 s q h)
          pick false q (inr h) = maps b x s h

  exits' : (b : ℕ) (x : Block) (s : ℕ) → slice_get g b ≡ Some x → (Assigns x.set s ⊎ (live b s ≡ true)) → exit_name names (F b x) s ≡ Some (after_set slots entry g live phi_name set_name x.set b s)
  exits' b x s at h = exits b x s at h ∙ ap (λ o. Some (after_block slots entry g live phi_name set_name o b s)) at

  -- ---- terms

  spelled : (name : ℕ → Option ℕ) (now : ℕ → ℕ) (ss : List ℕ) → ((s : ℕ) → In ss s → name s ≡ Some (now s)) → Spelled name ss (map now ss)
  spelled name now [] h = tt
  spelled name now (s ∷ ss) h = (h s (inl refl), spelled name now ss (λ t i. h t (inr i)))

  -- what is live after the assignment, if it is read there
  read_later : (a : Option (ℕ × Term)) (b s : ℕ) (later : Type 0) → (LiveSet a later s → live b s ≡ true) → later → Assigns a s ⊎ (live b s ≡ true)
  read_later None b s later h l = inr (h l)
  read_later (Some a) b s later h l = elim (compared a.0 s) [ inl e ↦ inl e | inr differ ↦ inr (h (inr (differ, l))) ]

  same_end : (e : End) (name : ℕ → Option ℕ) (now : ℕ → ℕ) (next : ℕ → ℕ → Type 0) → ((s : ℕ) → LiveEnd e (λ c. next c s) s → name s ≡ Some (now s)) → SameEnd name e (named_end slots entry g live phi_name set_name now e)
  same_end (Jump c) name now next h = refl
  same_end (Branch t y n) name now next h = ((refl, spelled name now t.names (λ s i. h s (inl i))), refl, refl)
  same_end (Return t) name now next h = (refl, spelled name now t.names (λ s i. h s i))
  same_end (Fail k) name now next h = refl

  ends : (b : ℕ) (x : Block) → slice_get g b ≡ Some x → SameEnd (exit_name names (F b x)) x.end (F b x).end
  ends b x at = same_end x.end (exit_name names (F b x)) (after_set slots entry g live phi_name set_name x.set b) (λ c s. live c s ≡ true) (λ s l. exits' b x s at (read_later x.set b s _ (closed.step b x s at) l))

  sets : (b : ℕ) (x : Block) → slice_get g b ≡ Some x → SameSet names (at_key (F b x).map) x.set (F b x).set
  sets b x at = go x.set refl
    where
      go : (a : Option (ℕ × Term)) → x.set ≡ a → SameSet names (at_key (F b x).map) a (named_set slots entry g live phi_name set_name b a)
      go None e = tt
      go (Some a) e = ((numbering.of_set b x a at e).0, (refl, spelled (at_key (F b x).map) (ent b) a.1.names (λ s i. maps b x s (closed.step b x s at (subst (λ o. LiveSet o (LiveEnd x.end (λ c. live c s ≡ true) s) s) (sym e) (inl i))))))

  -- ---- φs

  from_phis : (b : ℕ) (x : Block) (φ : Phi) → In (F b x).phis φ → (b ≡ entry → ⊥) × (s : ℕ) × (live b s ≡ true) × (full_phi slots entry g live phi_name set_name b s ≡ φ)
  from_phis b x φ i = go (nat_eq b entry) refl i
    where
      go : (c : Bool) → nat_eq b entry ≡ c → In (full_phis slots entry g live phi_name set_name c b) φ → (b ≡ entry → ⊥) × (s : ℕ) × (live b s ≡ true) × (full_phi slots entry g live phi_name set_name b s ≡ φ)
      go true e i = absurd i
      go false e i = let r = from_map (full_phi slots entry g live phi_name set_name b) (here b) φ i in (other_number b entry e, r.0, from_here b r.0 r.1, r.2)

  in_phis : (b : ℕ) (x : Block) (s : ℕ) → (b ≡ entry → ⊥) → live b s ≡ true → In (F b x).phis (full_phi slots entry g live phi_name set_name b s)
  in_phis b x s e h = subst (λ c. In (full_phis slots entry g live phi_name set_name c b) (full_phi slots entry g live phi_name set_name b s)) (sym (tests_other b entry e)) (in_map (full_phi slots entry g live phi_name set_name b) (here b) s (in_here b s h))

  entry_phis : (b : ℕ) (x : Block) → b ≡ entry → (F b x).phis ≡ []
  entry_phis b x e = ap (λ c. full_phis slots entry g live phi_name set_name c b) (tests_same b entry e)

  distinct_from : (c : ℕ) → Differ (from c)
  distinct_from c = distinct_filter_plain (λ b. leads (slice_get g b) c) (count_from 0 (length g)) (distinct_count 0 (length g))

  in_from : (b c : ℕ) → Edge g b c → In (from c) b
  in_from b c e = in_filter (λ b. leads (slice_get g b) c) (count_from 0 (length g)) b (in_count 0 (length g) b (omega arith) (let lt : b < length g = slice_get_within g b e.0 e.1 in omega (arith, lt))) (leads_from_edge g b c e)

  edge_from : (b c : ℕ) → In (from c) b → Edge g b c
  edge_from b c i = edge_from_leads g b c (from_filter (λ b. leads (slice_get g b) c) (count_from 0 (length g)) b i).1

  keys_from : (s : ℕ) (ps : List ℕ) → map first_of (map (λ p. (p, out p s)) ps) ≡ ps
  keys_from s [] = refl
  keys_from s (p ∷ ps) = ap (λ l. p ∷ l) (keys_from s ps)

  operand_blocks : (b s : ℕ) → Differ (map first_of (full_phi slots entry g live phi_name set_name b s).operands)
  operand_blocks b s = subst (λ l. Differ l) (sym (keys_from s (from b))) (distinct_from b)

  operand_at : (b c s : ℕ) → Edge g b c → at_key (full_phi slots entry g live phi_name set_name c s).operands b ≡ Some (out b s)
  operand_at b c s e = in_lookup (full_phi slots entry g live phi_name set_name c s).operands (b, out b s) (operand_blocks c s) (in_map (λ p. (p, out p s)) (from c) b (in_from b c e))

  phi_slots : (b : ℕ) (x : Block) → slice_get g b ≡ Some x → Differ (map (λ φ. slice_get names φ.name) (F b x).phis)
  phi_slots b x at = go (nat_eq b entry) refl
    where
      apart : (b ≡ entry → ⊥) → (s t : ℕ) → In (here b) s → In (here b) t → slice_get names (phi_name b s) ≡ slice_get names (phi_name b t) → s ≡ t
      apart e s t i j q = some_same (sym (numbering.of_phi b x s at (from_here b s i) e).0 ∙ q ∙ (numbering.of_phi b x t at (from_here b t j) e).0)

      slots_of : (ss : List ℕ) → map (λ (φ : Phi). slice_get names φ.name) (map (full_phi slots entry g live phi_name set_name b) ss) ≡ map (λ s. slice_get names (phi_name b s)) ss
      slots_of [] = refl
      slots_of (s ∷ ss) = ap (λ l. slice_get names (phi_name b s) ∷ l) (slots_of ss)

      go : (c : Bool) → nat_eq b entry ≡ c → Differ (map (λ φ. slice_get names φ.name) (full_phis slots entry g live phi_name set_name c b))
      go true e = tt
      go false e = subst (λ l. Differ l) (sym (slots_of (here b))) (distinct_map (λ s. slice_get names (phi_name b s)) (here b) (apart (other_number b entry e)) (distinct_here b))

  -- ---- what is set where

  pub from_sets : (b : ℕ) (x : Block) (n : ℕ) → slice_get g b ≡ Some x → Sets (F b x) n → ((b ≡ entry → ⊥) × (s : ℕ) × (live b s ≡ true) × (phi_name b s ≡ n)) ⊎ ((a : ℕ × Term) × (x.set ≡ Some a) × (set_name b ≡ n))
  from_sets b x n at (inl p) = let r = from_phis b x p.0 p.1 in inl (r.0, r.1, r.2, ap (λ (φ : Phi). φ.name) r.3 ∙ p.2)
  from_sets b x n at (inr a) = inr (go x.set refl a)
    where
      go : (a : Option (ℕ × Term)) → x.set ≡ a → Assigns (named_set slots entry g live phi_name set_name b a) n → (a : ℕ × Term) × (x.set ≡ Some a) × (set_name b ≡ n)
      go None e h = absurd h
      go (Some a) e h = (a, e, h)

  unset : (b : ℕ) (x : Block) (n : ℕ) → slice_get g b ≡ Some x → Sets (F b x) n → params ≤ n
  unset b x n at h = elim (from_sets b x n at h) [
    | inl r ↦ subst (λ v. params ≤ v) r.3 (numbering.of_phi b x r.1 at r.2 r.0).1
    | inr r ↦ subst (λ v. params ≤ v) r.2 (numbering.of_set b x r.0 at r.1).1
  ]

  once : (b c : ℕ) (x y : Block) (n : ℕ) → slice_get g b ≡ Some x → slice_get g c ≡ Some y → Sets (F b x) n → Sets (F c y) n → b ≡ c
  once b c x y n atb atc h k = go (from_sets b x n atb h) (from_sets c y n atc k)
    where
      go : ((b ≡ entry → ⊥) × (s : ℕ) × (live b s ≡ true) × (phi_name b s ≡ n)) ⊎ ((a : ℕ × Term) × (x.set ≡ Some a) × (set_name b ≡ n)) → ((c ≡ entry → ⊥) × (s : ℕ) × (live c s ≡ true) × (phi_name c s ≡ n)) ⊎ ((a : ℕ × Term) × (y.set ≡ Some a) × (set_name c ≡ n)) → b ≡ c
      go (inl p) (inl q) = numbering.phi_apart b c x y p.1 q.1 atb atc p.2 q.2 p.0 q.0 (p.3 ∙ sym q.3)
      go (inl p) (inr q) = absurd (numbering.phi_set_apart b c x y p.1 q.0 atb atc p.2 p.0 q.1 (p.3 ∙ sym q.2))
      go (inr p) (inl q) = absurd (numbering.phi_set_apart c b y x q.1 p.0 atc atb q.2 q.0 p.1 (q.3 ∙ sym p.2))
      go (inr p) (inr q) = numbering.set_apart b c x y p.0 q.0 atb atc p.1 q.1 (p.2 ∙ sym q.2)

  apart : (b : ℕ) (x : Block) (n : ℕ) → slice_get g b ≡ Some x → IsPhi (F b x) n → Assigns (F b x).set n → ⊥
  apart b x n at p a = go x.set refl a
    where
      r : (b ≡ entry → ⊥) × (s : ℕ) × (live b s ≡ true) × (full_phi slots entry g live phi_name set_name b s ≡ p.0)
      r = from_phis b x p.0 p.1

      e : phi_name b r.1 ≡ n
      e = ap (λ (φ : Phi). φ.name) r.3 ∙ p.2

      go : (o : Option (ℕ × Term)) → x.set ≡ o → Assigns (named_set slots entry g live phi_name set_name b o) n → ⊥
      go None q h = h
      go (Some a) q h = numbering.phi_set_apart b b x x r.1 a at at r.2 r.0 q (e ∙ sym h)

  -- ---- edges

  flows : (b c : ℕ) (x y : Block) (s n : ℕ) → slice_get g b ≡ Some x → slice_get g c ≡ Some y → Edge g b c → at_key (F c y).map s ≡ Some n → (e : ℕ) × (exit_name names (F b x) s ≡ Some e) × Flows (F c y) b n e
  flows b c x y s n atb atc edge h = (out b s, exits b x s atb live_before, record { joined = joined; passed = passed })
    where
      r : (live c s ≡ true) × (ent c s ≡ n)
      r = maps_back c y s n h

      away : c ≡ entry → ⊥
      away e = closed.no_way_back b (subst (λ v. Edge g b v) e edge)

      same : edge.0 ≡ x
      same = some_same (sym edge.1 ∙ atb)

      later : (e : End) → Leads e c → LiveEnd e (λ c. live c s ≡ true) s
      later (Jump d) l = subst (λ v. live v s ≡ true) (sym l) r.0
      later (Branch t d f) (inl l) = inr (inl (subst (λ v. live v s ≡ true) (sym l) r.0))
      later (Branch t d f) (inr l) = inr (inr (subst (λ v. live v s ≡ true) (sym l) r.0))
      later (Return t) l = absurd l
      later (Fail k) l = absurd l

      live_before : Assigns x.set s ⊎ (live b s ≡ true)
      live_before = read_later x.set b s (LiveEnd x.end (λ c. live c s ≡ true) s) (closed.step b x s atb) (later x.end (subst (λ (v : Block). Leads v.end c) same edge.2))

      is_phi : phi_name c s ≡ n
      is_phi = sym (elsewhere c s away) ∙ r.1

      joined : (φ : Phi) → In (F c y).phis φ → φ.name ≡ n → at_key φ.operands b ≡ Some (out b s)
      joined φ i e =
          let q = from_phis c y φ i in
          let t : q.1 ≡ s = some_same (sym (numbering.of_phi c y q.1 atc q.2 q.0).0 ∙ ap (slice_get names) (ap (λ (φ : Phi). φ.name) q.3 ∙ e ∙ sym is_phi) ∙ (numbering.of_phi c y s atc r.0 away).0) in
          subst (λ (φ : Phi). at_key φ.operands b ≡ Some (out b s)) (ap (full_phi slots entry g live phi_name set_name c) (sym t) ∙ q.3) (operand_at b c s edge)

      passed : ((φ : Phi) → In (F c y).phis φ → φ.name ≡ n → ⊥) → out b s ≡ n
      passed none = absurd (none (full_phi slots entry g live phi_name set_name c s) (in_phis c y s away r.0) is_phi)

  -- ---- the whole

  map_names : (b : ℕ) (x : Block) (p : ℕ × ℕ) → slice_get g b ≡ Some x → In (F b x).map p → slice_get names p.1 ≡ Some p.0
  map_names b x p at i =
      let r = from_map (λ s. (s, ent b s)) (here b) p i in
      subst (λ (o : ℕ × ℕ). slice_get names o.1 ≡ Some o.0) r.2 (of_slot b x r.0 at (from_here b r.0 r.1))

  entry_map : (b : ℕ) (x : Block) (p : ℕ × ℕ) → b ≡ entry → In (F b x).map p → (p.0 < params) × (p.1 ≡ p.0)
  entry_map b x p e i =
      let r = from_map (λ s. (s, ent b s)) (here b) p i in
      subst (λ (o : ℕ × ℕ). (o.0 < params) × (o.1 ≡ o.0)) r.2 (closed.entry_only r.0 (subst (λ v. live v r.0 ≡ true) e (from_here b r.0 r.1)), at_entry b r.0 e)

  phi_map : (b : ℕ) (x : Block) (φ : Phi) → slice_get g b ≡ Some x → In (F b x).phis φ → (s : ℕ) × (slice_get names φ.name ≡ Some s) × (at_key (F b x).map s ≡ Some φ.name)
  phi_map b x φ at i =
      let r = from_phis b x φ i in
      subst (λ (φ : Phi). (s : ℕ) × (slice_get names φ.name ≡ Some s) × (at_key (F b x).map s ≡ Some φ.name)) r.3 (r.1, (numbering.of_phi b x r.1 at r.2 r.0).0, maps b x r.1 r.2 ∙ ap Some (elsewhere b r.1 r.0))

  operand_edges : (b : ℕ) (x : Block) (φ : Phi) (o : ℕ × ℕ) → In (F b x).phis φ → In φ.operands o → Edge g o.0 b
  operand_edges b x φ o i j =
      let r = from_phis b x φ i in
      let q = from_map (λ p. (p, out p r.1)) (from b) o (subst (λ (φ : Phi). In φ.operands o) (sym r.3) j) in
      subst (λ (o : ℕ × ℕ). Edge g o.0 b) q.2 (edge_from q.0 b q.1)

  pub full_named : IsNamed slots params entry g Z
  full_named = record {
    as_many = length_numbered F 0 g;
    of_slots = numbering.of_slots;
    parameters = numbering.parameter;
    unset = λ b y n at. each (λ b y. Sets y n → params ≤ n) (λ b x at i. unset b x n at i) b y at;
    once = λ b c x y n atb atc. each (λ b x. Sets x n → Sets y n → b ≡ c) (λ b x atb. each (λ c y. Sets (F b x) n → Sets y n → b ≡ c) (λ c y atc. once b c x y n atb atc) c y atc) b x atb;
    apart = λ b y n at. each (λ b y. IsPhi y n → Assigns y.set n → ⊥) (λ b x at. apart b x n at) b y at;
    map_slots = each (λ b y. Differ (map first_of y.map)) (λ b x at. map_slots b x);
    map_names = λ b y p at. each (λ b y. In y.map p → slice_get names p.1 ≡ Some p.0) (λ b x at. map_names b x p at) b y at;
    phi_slots = each (λ b y. Differ (map (λ φ. slice_get names φ.name) y.phis)) (λ b x at. phi_slots b x at);
    phi_map = λ b y φ at. each (λ b y. In y.phis φ → (s : ℕ) × (slice_get names φ.name ≡ Some s) × (at_key y.map s ≡ Some φ.name)) (λ b x at. phi_map b x φ at) b y at;
    entry_phis = λ y at. each (λ b y. b ≡ entry → y.phis ≡ []) (λ b x at e. entry_phis b x e) entry y at refl;
    entry_map = λ y p at. each (λ b y. b ≡ entry → In y.map p → (p.0 < params) × (p.1 ≡ p.0)) (λ b x at e. entry_map b x p e) entry y at refl;
    same_set = λ b y x atg at. each (λ b x. (y : Block) → slice_get g b ≡ Some y → SameSet names (at_key x.map) y.set x.set) (λ b x at y atg. subst (λ (y : Block). SameSet names (at_key (F b x).map) y.set (F b x).set) (some_same (sym at ∙ atg)) (sets b x at)) b x at y atg;
    same_end = λ b y x atg at. each (λ b x. (y : Block) → slice_get g b ≡ Some y → SameEnd (exit_name names x) y.end x.end) (λ b x at y atg. subst (λ (y : Block). SameEnd (exit_name names (F b x)) y.end (F b x).end) (some_same (sym at ∙ atg)) (ends b x at)) b x at y atg;
    operand_blocks = λ b y φ at. each (λ b y. In y.phis φ → Differ (map first_of φ.operands)) (λ b x at i. let r = from_phis b x φ i in subst (λ (φ : Phi). Differ (map first_of φ.operands)) r.3 (operand_blocks b r.1)) b y at;
    operand_edges = λ b y φ o at. each (λ b y. In y.phis φ → In φ.operands o → Edge g o.0 b) (λ b x at. operand_edges b x φ o) b y at;
    flows = λ b c x y s n atb atc. each (λ b x. Edge g b c → at_key y.map s ≡ Some n → (e : ℕ) × (exit_name names x s ≡ Some e) × Flows y b n e) (λ b x atb. each (λ c y. Edge g b c → at_key y.map s ≡ Some n → (e : ℕ) × (exit_name names (F b x) s ≡ Some e) × Flows y b n e) (λ c y atc. flows b c x y s n atb atc) c y atc) b x atb;
  }
