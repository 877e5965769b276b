-- The names of one slot more, and of one block more.
use Rattle.std.proofs.Common.{◌≡◌, ℕ, suc, ◌+◌, ◌<◌, Bool, true, false, List, [], ◌∷◌, ◌++◌, map, length, length-append, get_or, slice_get, Some, sym, ap, ◌∙◌, subst, inl, inr, arith, append_assoc}
use Rattle.std.specs.List.{filter}
use Rattle.ssa_build.specs.declared.layout.Layout.{Layout}
use Rattle.ssa_build.specs.Forms.{Block}
use Rattle.block_graph.specs.Ranges.{count_from}
use Rattle.ssa_build.specs.Names.{NamesBelow, assigned, names_below, next_name, phi_slots, set_slots}
use Rattle.block_graph.proofs.Lists.{compared}
use Rattle.block_graph.proofs.Ranges.{filter_no, filter_yes}
use Rattle.ssa_build.proofs.LoopLists.{map_push}
use Rattle.block_graph.proofs.Ranges.{count_more}
use Rattle.ssa_build.proofs.Ordered.{get_new, get_old}
use Rattle.ssa_build.proofs.Placing.{length_more}

-- ---- a slot more

module _ (p : ℕ → Bool) (old names : List ℕ) (s : ℕ) (so : names ≡ old ++ filter p (count_from 0 s)) where
  pub name_added : (new : List ℕ) → p s ≡ true → new ≡ names ++ s ∷ [] → new ≡ old ++ filter p (count_from 0 (s + 1))
  name_added new e is = is ∙ ap (λ v. v ++ s ∷ []) so ∙ append_assoc old (filter p (count_from 0 s)) (s ∷ []) ∙ ap (λ v. old ++ v) (sym (filter_yes p s e))

  pub none_added : (new : List ℕ) → p s ≡ false → new ≡ names → new ≡ old ++ filter p (count_from 0 (s + 1))
  none_added new e is = is ∙ so ∙ ap (λ v. old ++ v) (sym (filter_no p s e))

  pub names_long : length names ≡ length old + length (filter p (count_from 0 s))
  names_long = ap length so ∙ length-append old (filter p (count_from 0 s))

  pub row_added : (row new : List ℕ) (k : ℕ) → k ≡ length names → row ≡ map (λ t. length old + length (filter p (count_from 0 t))) (count_from 0 s) → new ≡ row ++ k ∷ [] → new ≡ map (λ t. length old + length (filter p (count_from 0 t))) (count_from 0 (s + 1))
  row_added row new k e is so' =
      let f : ℕ → ℕ = λ t. length old + length (filter p (count_from 0 t)) in
      so' ∙ ap (λ v. row ++ v ∷ []) (e ∙ names_long) ∙ ap (λ v. v ++ f s ∷ []) is ∙ sym (map_push f (count_from 0 s) s) ∙ ap (map f) (sym (count_more s))

-- ---- a block more

module _ (l : Layout) (live : ℕ → ℕ → Bool) (g : List Block) (n : ℕ) (x : Block) (slots : List ℕ) (phis : List (List ℕ)) (sets : List ℕ) (so : NamesBelow l live g n slots phis sets) (at : slice_get g n ≡ Some x) (middle row : List ℕ) (k : ℕ) (adds : middle ≡ slots ++ phi_slots l live n l.slots) (rows : row ≡ map (λ s. length slots + length (phi_slots l live n s)) (count_from 0 l.slots)) (counts : k ≡ length middle) where
  one : suc n ≡ n + 1
  one = omega arith

  middle_is : middle ≡ names_below l live g n ++ phi_slots l live n l.slots
  middle_is = adds ∙ ap (λ v. v ++ phi_slots l live n l.slots) so.slots_are

  row_is : row ≡ map (next_name l live g n) (count_from 0 l.slots)
  row_is = rows ∙ ap (λ v. map (λ s. length v + length (phi_slots l live n s)) (count_from 0 l.slots)) so.slots_are

  k_is : k ≡ next_name l live g n l.slots
  k_is = counts ∙ ap length middle_is ∙ length-append (names_below l live g n) (phi_slots l live n l.slots)

  slots_is : (new : List ℕ) → new ≡ middle ++ set_slots x.set → new ≡ names_below l live g (n + 1)
  slots_is new is =
      is ∙ ap (λ v. v ++ set_slots x.set) middle_is ∙ append_assoc (names_below l live g n) (phi_slots l live n l.slots) (set_slots x.set)
      ∙ ap (λ o. names_below l live g n ++ (phi_slots l live n l.slots ++ assigned o)) (sym at) ∙ ap (names_below l live g) one

  phis_is : (b : ℕ) → b < n + 1 → get_or (phis ++ row ∷ []) b [] ≡ map (next_name l live g b) (count_from 0 l.slots)
  phis_is b lt = elim (compared b n) [
    | inl e ↦ get_new phis row [] b (e ∙ sym so.phis_long) ∙ row_is ∙ ap (λ v. map (next_name l live g v) (count_from 0 l.slots)) (sym e)
    | inr differ ↦ let q : b < n = omega (arith, lt, differ) in get_old phis row [] b (subst (λ v. b < v) (sym so.phis_long) q) ∙ so.phis_are b q
  ]

  sets_is : (b : ℕ) → b < n + 1 → get_or (sets ++ k ∷ []) b 0 ≡ next_name l live g b l.slots
  sets_is b lt = elim (compared b n) [
    | inl e ↦ get_new sets k 0 b (e ∙ sym so.sets_long) ∙ k_is ∙ ap (λ v. next_name l live g v l.slots) (sym e)
    | inr differ ↦ let q : b < n = omega (arith, lt, differ) in get_old sets k 0 b (subst (λ v. b < v) (sym so.sets_long) q) ∙ so.sets_are b q
  ]

  pub names_more : (slots' : List ℕ) (phis' : List (List ℕ)) (sets' : List ℕ) → slots' ≡ middle ++ set_slots x.set → phis' ≡ phis ++ row ∷ [] → sets' ≡ sets ++ k ∷ [] → NamesBelow l live g (n + 1) slots' phis' sets'
  names_more slots' phis' sets' a b c =
      subst (λ v. NamesBelow l live g (n + 1) slots' v sets') (sym b) (subst (λ v. NamesBelow l live g (n + 1) slots' (phis ++ row ∷ []) v) (sym c) (record {
        slots_are = slots_is slots' a;
        phis_long = length_more phis row ∙ ap (λ v. v + 1) so.phis_long;
        phis_are = phis_is;
        sets_long = length_more sets k ∙ ap (λ v. v + 1) so.sets_long;
        sets_are = sets_is;
      }))
