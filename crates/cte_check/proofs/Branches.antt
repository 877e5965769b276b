-- The branches of the labels, one after the other.
use Rattle.std.proofs.Common.{◌≡◌, ℕ, zero, suc, ◌+◌, ◌<◌, ◌≤◌, List, [], ◌∷◌, length, get_or, drop, slice_get, Option, Some, ◌↔◌, sym, ap, subst, arith}
use Rattle.std.proofs.lemmas.Option.{same_Some}
use Rattle.away_trees.specs.declared.queries.Expr.{Expr}
use Rattle.block_forms.specs.Places.{Each}
use Rattle.tree_events.specs.Events.{row}
use Rattle.cte_reads.specs.Puts.{select_put}
use Rattle.cte_reads.specs.Read.{ReadsWhere}
use Rattle.cte_reads.proofs.ListPlaces.{drop_from, drop_past}
use Rattle.cte_reads.proofs.OneByOneWhere.{then_where, where_holds, as_where}
use Rattle.cte_check.specs.Walks.{branch_of, HasBranch, BranchRead}
use Rattle.cte_check.specs.Whole.{branches_from}
use Rattle.cte_check.specs.declared.body.Given as code

nothing_there : (i : ℕ) (b : ℕ) → slice_get {X = ℕ} [] i ≡ Some b → ⊥
nothing_there zero b e = cc
nothing_there (suc i) b e = cc

both_are : (P : ℕ → Type 0) (b : ℕ) (bs : List ℕ) → P b × Each P bs → (i x : ℕ) → slice_get (b ∷ bs) i ≡ Some x → P x
both_are P b bs p zero x e = subst P (same_Some b x e) p.0
both_are P b bs p (suc i) x e = p.1 i x e

each_of_two : (P : ℕ → Type 0) (b : ℕ) (bs : List ℕ) → (P b × Each P bs) ↔ Each P (b ∷ bs)
each_of_two P b bs = (λ p. both_are P b bs p, λ h. (h 0 b (λ i. Some b), λ i x e. h (suc i) x e))

module _ (table : List Expr) (g : code.Given) where
  -- what is read for labels of which the first is n-th
  abbrev pub LabelsRead : ℕ → List ℕ → Option ℕ → Option ℕ → Type 0
  LabelsRead n labels from to = ReadsWhere (Each (HasBranch table g) labels) (row select_put (branches_from table g n labels)) g.events.now from to

  pub no_label : (labels : List ℕ) (i : ℕ) (at : Option ℕ) → length labels ≤ i → LabelsRead i (drop i labels) at at
  no_label labels i at le =
      subst (λ l. LabelsRead i l at at) (sym (drop_past labels i le))
      (where_holds (λ i b e. absurd (nothing_there i b e)) (record { told = λ rest. (λ e. e, λ e. e) }))

  pub one_label : (labels : List ℕ) (i : ℕ) (at next to : Option ℕ) → i < length labels → BranchRead table g i (get_or labels i 0) at next
      → LabelsRead (i + 1) (drop (i + 1) labels) next to → LabelsRead i (drop i labels) at to
  one_label labels i at next to lt first others =
      let b : ℕ = get_or labels i 0 in
      let later : List ℕ = drop (i + 1) labels in
      subst (λ l. LabelsRead i l at to) (sym (drop_from labels i 0 lt))
      (as_where (each_of_two (HasBranch table g) b later)
      (λ h rest. ap (λ n. select_put (branch_of table g i b) (row select_put (branches_from table g n later) rest)) (let q : i + 1 ≡ suc i = omega arith in q))
      (then_where first others))
