-- What replacing does to maps, terms and blocks.
use Rattle.std.proofs.Common.{◌≡◌, ℕ, Bool, true, false, if◌then◌else◌, List, [], ◌∷◌, map, slice_get, Option, Some, None, nat_eq, refl, sym, ap, ◌∙◌, subst, inl, inr}
use Rattle.std.specs.List.{filter}
use Rattle.block_forms.specs.Forms.{at_key}
use Rattle.block_forms.specs.Places.{first_of}
use Rattle.ssa_build.specs.Forms.{Branch, End, Fail, Jump, Phi, Return, SsaBlock, Term}
use Rattle.block_forms.specs.Places.{In}
use Rattle.block_graph.proofs.Lists.{from_filter, from_map, in_filter, in_map, none_some, some_same}
use Rattle.ssa_build.proofs.Merges.{SetsStaying, replaced_block, replaced_end, replaced_in, replaced_phi, replaced_set, replaced_term}
use Rattle.ssa_build.proofs.Naming.{Assigns, IsPhi, SameEnd, SameSet, SameTerm, Sets, Spelled, is_slot, renewed}

module _ (into : ℕ → ℕ) (stays : ℕ → Bool) where
  pub keys_kept : (m : List (ℕ × ℕ)) → map first_of (map (replaced_in into stays) m) ≡ map first_of m
  keys_kept [] = refl
  keys_kept (p ∷ ps) = ap (λ ks. p.0 ∷ ks) (keys_kept ps)

  -- a look-up finds the replaced name
  pub found : (m : List (ℕ × ℕ)) (s n : ℕ) → at_key m s ≡ Some n → at_key (map (replaced_in into stays) m) s ≡ Some (into n)
  found [] s n e = absurd (none_some e)
  found (p ∷ ps) s n e = go (nat_eq p.0 s) (found ps s n) e
    where
      go : (c : Bool) → (at_key ps s ≡ Some n → at_key (map (replaced_in into stays) ps) s ≡ Some (into n)) → (if c then Some p.1 else at_key ps s) ≡ Some n → (if c then Some (into p.1) else at_key (map (replaced_in into stays) ps) s) ≡ Some (into n)
      go true rest q = ap (λ k. Some (into k)) (some_same q)
      go false rest q = rest q

  pub found_back : (m : List (ℕ × ℕ)) (s k : ℕ) → at_key (map (replaced_in into stays) m) s ≡ Some k → (n : ℕ) × (at_key m s ≡ Some n) × (into n ≡ k)
  found_back [] s k e = absurd (none_some e)
  found_back (p ∷ ps) s k e = go (nat_eq p.0 s) (found_back ps s k) e
    where
      go : (c : Bool) → (at_key (map (replaced_in into stays) ps) s ≡ Some k → (n : ℕ) × (at_key ps s ≡ Some n) × (into n ≡ k)) → (if c then Some (into p.1) else at_key (map (replaced_in into stays) ps) s) ≡ Some k → (n : ℕ) × ((if c then Some p.1 else at_key ps s) ≡ Some n) × (into n ≡ k)
      go true rest q = (p.1, refl, some_same q)
      go false rest q = rest q

  -- ---- terms
  module _ (name after : ℕ → Option ℕ) (follows : (s n : ℕ) → name s ≡ Some n → after s ≡ Some (into n)) where
    pub spelled : (ss ns : List ℕ) → Spelled name ss ns → Spelled after ss (map into ns)
    spelled [] [] h = tt
    spelled [] (n ∷ ns) h = h
    spelled (s ∷ ss) [] h = h
    spelled (s ∷ ss) (n ∷ ns) h = (follows s n h.0, spelled ss ns h.1)

    pub same_term : (t u : Term) → SameTerm name t u → SameTerm after t (replaced_term into stays u)
    same_term t u h = (h.0, spelled t.names u.names h.1)

    pub same_end : (e f : End) → SameEnd name e f → SameEnd after e (replaced_end into stays f)
    same_end (Jump b) (Jump c) h = h
    same_end (Jump b) (Branch u v w) h = h
    same_end (Jump b) (Return u) h = h
    same_end (Jump b) (Fail k) h = h
    same_end (Branch t y n) (Jump c) h = h
    same_end (Branch t y n) (Branch u v w) h = (same_term t u h.0, h.1, h.2)
    same_end (Branch t y n) (Return u) h = h
    same_end (Branch t y n) (Fail k) h = h
    same_end (Return t) (Jump c) h = h
    same_end (Return t) (Branch u v w) h = h
    same_end (Return t) (Return u) h = same_term t u h
    same_end (Return t) (Fail k) h = h
    same_end (Fail k) (Jump c) h = h
    same_end (Fail k) (Branch u v w) h = h
    same_end (Fail k) (Return u) h = h
    same_end (Fail k) (Fail l) h = h

    pub same_set : (names new : List ℕ) (a b : Option (ℕ × Term)) → ((n s : ℕ) → slice_get names n ≡ Some s → slice_get new (into n) ≡ Some s) → SameSet names name a b → SameSet new after a (replaced_set into stays b)
    same_set names new None None slots h = tt
    same_set names new None (Some b) slots h = h
    same_set names new (Some a) None slots h = h
    same_set names new (Some a) (Some b) slots h = (slots b.0 a.0 h.0, same_term a.1 b.1 h.1)

  -- ---- blocks

  pub assigns_back : (s : Option (ℕ × Term)) (k : ℕ) → Assigns (replaced_set into stays s) k → (n : ℕ) × Assigns s n × (into n ≡ k)
  assigns_back None k h = absurd h
  assigns_back (Some a) k h = (a.0, refl, h)

  pub phi_back : (x : SsaBlock) (ψ : Phi) → In (replaced_block into stays x).phis ψ → (φ : Phi) × In x.phis φ × (stays φ.name ≡ true) × (replaced_phi into stays φ ≡ ψ)
  phi_back x ψ i =
      let r = from_map (replaced_phi into stays) (filter (λ φ. stays φ.name) x.phis) ψ i in
      let q = from_filter (λ (φ : Phi). stays φ.name) x.phis r.0 r.1 in
      (r.0, q.0, q.1, r.2)

  pub phi_on : (x : SsaBlock) (φ : Phi) → In x.phis φ → stays φ.name ≡ true → In (replaced_block into stays x).phis (replaced_phi into stays φ)
  phi_on x φ i e = in_map (replaced_phi into stays) (filter (λ φ. stays φ.name) x.phis) φ (in_filter (λ (φ : Phi). stays φ.name) x.phis φ i e)

  pub is_phi_back : (x : SsaBlock) (k : ℕ) → IsPhi (replaced_block into stays x) k → (n : ℕ) × IsPhi x n × (stays n ≡ true) × (into n ≡ k)
  is_phi_back x k p = let r = phi_back x p.0 p.1 in (r.0.name, (r.0, r.1, refl), r.2, ap (λ (φ : Phi). φ.name) r.3 ∙ p.2)

  pub sets_back : (x : SsaBlock) (k : ℕ) → Sets (replaced_block into stays x) k → (n : ℕ) × SetsStaying stays x n × (into n ≡ k)
  sets_back x k (inl p) = let r = is_phi_back x k p in (r.0, inl (r.1, r.2), r.3)
  sets_back x k (inr a) = let r = assigns_back x.set k a in (r.0, inr r.1, r.2)

  -- after the block a slot has the replaced name
  pub exits : (names new : List ℕ) (m : List (ℕ × ℕ)) (a : Option (ℕ × Term)) (s e : ℕ) → ((n : ℕ) → Assigns a n → (t : ℕ) × (slice_get names n ≡ Some t) × (slice_get new (into n) ≡ Some t)) → renewed names a (at_key m) s ≡ Some e → renewed new (replaced_set into stays a) (at_key (map (replaced_in into stays) m)) s ≡ Some (into e)
  exits names new m None s e slots h = found m s e h
  exits names new m (Some a) s e slots h =
      let t = slots a.0 refl in
      subst (λ o. (if is_slot o s then Some (into a.0) else at_key (map (replaced_in into stays) m) s) ≡ Some (into e)) (sym t.2)
      (go (nat_eq t.0 s) (subst (λ o. (if is_slot o s then Some a.0 else at_key m s) ≡ Some e) t.1 h))
    where
      go : (c : Bool) → (if c then Some a.0 else at_key m s) ≡ Some e → (if c then Some (into a.0) else at_key (map (replaced_in into stays) m) s) ≡ Some (into e)
      go true q = ap (λ k. Some (into k)) (some_same q)
      go false q = found m s e q
