-- Lists of so many parts, one part at a time.
use Rattle.std.proofs.Common.{◌≡◌, ap, sym, subst, ◌∙◌, ℕ, suc, ◌+◌, ◌-◌, ◌<◌, List, [], ◌∷◌, ◌++◌, Option, None, Some, MatchOption, arith}
use Rattle.std.proofs.lemmas.List.{append_assoc}
use Rattle.away_values.specs.declared.operators.ChainOp.{ChainOp}
use Rattle.away_values.specs.declared.operators.ChainOp.TheVariants as chain
use Rattle.away_trees.specs.declared.queries.Expr.{Expr}
use Rattle.away_trees.specs.declared.statements.Stmt.{Stmt}
use Rattle.away_trees.specs.declared.statements.Stmt.TheVariants as stmt
use Rattle.away_names.specs.Lookups.{Name}
use Rattle.moved_names.specs.Renamed.{name_at}
use Rattle.call_expand.specs.Expanding.{further_nulls, is_null, variable}
use Rattle.call_expand.specs.Untailing.{moves}

-- what is left of n behind i
left : (n i : ℕ) → i < n → n - i ≡ suc (n - (i + 1))
left n i lt = omega (arith, lt)

-- one part goes from what is left to what is done
moved : {A : Type 0} → (done before rest next whole : List A) → (x : A) → done ≡ before ++ x ∷ [] → rest ≡ x ∷ next → before ++ rest ≡ whole → done ++ next ≡ whole
moved done before rest next whole x is split was =
    ap (λ l. l ++ next) is ∙ (append_assoc before (x ∷ []) next ∙ (ap (λ l. before ++ l) (sym split) ∙ was))

module _ (names : List Name) where
  abbrev F : ℕ → ℕ → List (ChainOp × Expr)
  F = further_nulls names

  null_split : (n i k at to : ℕ) → i < n → at ≡ k + i → to ≡ k + (i + 1) → F (n - i) at ≡ (chain.Or, is_null names at) ∷ F (n - (i + 1)) to
  null_split n i k at to lt is then =
      ap (λ z. F z at) (left n i lt) ∙ ap (λ z. (chain.Or, is_null names at) ∷ F (n - (i + 1)) z) (omega (arith, is, then))

  pub null_step : (n i k at to : ℕ) → (done before whole : List (ChainOp × Expr)) → (x : Expr) → i < n → at ≡ k + i → to ≡ k + (i + 1) → x ≡ is_null names at
      → done ≡ before ++ (chain.Or, x) ∷ [] → before ++ F (n - i) at ≡ whole → done ++ F (n - (i + 1)) to ≡ whole
  null_step n i k at to done before whole x lt is then null pushed was =
      moved done before (F (n - i) at) (F (n - (i + 1)) to) whole (chain.Or, is_null names at) (pushed ∙ ap (λ y. before ++ (chain.Or, y) ∷ []) null) (null_split n i k at to lt is then) was

  abbrev M : ℕ → ℕ → ℕ → List Stmt
  M = moves names

  abbrev one_move : ℕ → ℕ → Stmt
  one_move to from = stmt.Assign (name_at names to) None (variable names from)

  move_split : (n t i j to from to_next from_next : ℕ) → t < n → to ≡ i + t → from ≡ j + t → to_next ≡ i + (t + 1) → from_next ≡ j + (t + 1)
      → M (n - t) to from ≡ one_move to from ∷ M (n - (t + 1)) to_next from_next
  move_split n t i j to from to_next from_next lt is_to is_from next_to next_from =
      ap (λ z. M z to from) (left n t lt)
      ∙ (ap (λ z. one_move to from ∷ M (n - (t + 1)) z (suc from)) (omega (arith, is_to, next_to))
      ∙ ap (λ z. one_move to from ∷ M (n - (t + 1)) to_next z) (omega (arith, is_from, next_from)))

  pub move_step : (n t i j to from to_next from_next : ℕ) → (done before whole : List Stmt) → (target : Name) → (value : Expr) → t < n → to ≡ i + t → from ≡ j + t → to_next ≡ i + (t + 1) → from_next ≡ j + (t + 1)
      → target ≡ name_at names to → value ≡ variable names from → done ≡ before ++ stmt.Assign target None value ∷ [] → before ++ M (n - t) to from ≡ whole → done ++ M (n - (t + 1)) to_next from_next ≡ whole
  move_step n t i j to from to_next from_next done before whole target value lt is_to is_from next_to next_from is_target is_value pushed was =
      moved done before (M (n - t) to from) (M (n - (t + 1)) to_next from_next) whole (one_move to from)
      (pushed ∙ (λ i. before ++ stmt.Assign (is_target i) None (is_value i) ∷ []))
      (move_split n t i j to from to_next from_next lt is_to is_from next_to next_from) was

-- what is promised of a value that is there
pub there : {A : Type 0} (No : Type 0) (Yes : A → Type 0) → (found : Option A) (x : A) → found ≡ Some x → MatchOption found No Yes → Yes x
there No Yes found x is h = subst (λ o. MatchOption o No Yes) is h
