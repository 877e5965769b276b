-- Elements with distinct keys below a number are at most so many.
use Rattle.std.proofs.Common.{◌≡◌, ℕ, ◌<◌, ◌≤◌, Bool, true, false, ◌||◌, eqb, List, [], ◌∷◌, map, length, get_or, slice_get, Some, refl, sym, ◌∙◌, subst, inl, inr, arith, eqb-true}
use Rattle.std.specs.List.{list_any}
use Rattle.std.proofs.lemmas.List.{length-map}
use Rattle.std.proofs.lemmas.Map.Keys.{IsDistinct-from_apart}
use Rattle.std.proofs.lemmas.Map.Steps.{length-le_from_distinct_below}
use Rattle.std.proofs.lemmas.Option.{get_or_from_slice_get}
use Rattle.block_forms.specs.Places.{Distinct, Each, In}
use Rattle.block_graph.proofs.Lists.{at_map, from_map, place_in, some_at, tests_other}

in_tested : (q : ℕ) (ns : List ℕ) → list_any (eqb q) ns ≡ true → In ns q
in_tested q [] h = absurd (let no : ⊥ = cc h in no)
in_tested q (n ∷ ns) h = go (eqb q n) refl h (in_tested q ns)
  where
    go : (c : Bool) → eqb q n ≡ c → (c || list_any (eqb q) ns) ≡ true → (list_any (eqb q) ns ≡ true → In ns q) → In (n ∷ ns) q
    go true e k rest = inl (sym (eqb-true q n e))
    go false e k rest = inr (rest k)

module _ {X : Type 0} (key : X → ℕ) (xs : List X) where
  key_at : (i d : ℕ) → i < length (map key xs) → (x : X) × (slice_get xs i ≡ Some x) × (get_or (map key xs) i d ≡ key x)
  key_at i d lt =
      let r = some_at xs i (subst (λ n. i < n) (length-map xs key) lt) in
      (r.0, r.1, get_or_from_slice_get (map key xs) i (key r.0) d (at_map key xs i r.0 r.1))

  pub few_keys : (m : ℕ) → Each (λ x. key x < m) xs → Distinct key xs → length xs ≤ m
  few_keys m below apart = subst (λ n. n ≤ m) (length-map xs key) (length-le_from_distinct_below (map key xs) m (IsDistinct-from_apart eqb (map key xs) differ) under)
    where
      differ : (i j d : ℕ) → i < j → j < length (map key xs) → eqb (get_or (map key xs) i d) (get_or (map key xs) j d) ≡ false
      differ i j d less lt =
          let a = key_at i d (omega (arith, less, lt)) in
          let b = key_at j d lt in
          tests_other (get_or (map key xs) i d) (get_or (map key xs) j d) (λ e. (apart j b.0 b.1).others i a.0 a.1 less (sym a.2 ∙ e ∙ b.2))

      under : (q : ℕ) → list_any (eqb q) (map key xs) ≡ true → q < m
      under q h =
          let r = from_map key xs q (in_tested q (map key xs) h) in
          let p = place_in xs r.0 r.1 in
          subst (λ v. v < m) r.2 (below p.0 r.0 p.1)
