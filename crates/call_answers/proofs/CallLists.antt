-- The lists in the block of a call, one by one.
use Rattle.std.proofs.Common.{◌≡◌, refl, sym, ap, ◌∙◌, subst, ℕ, zero, suc, ◌+◌, ◌≤◌, Bool, true, false, List, [], ◌∷◌, drop, slice_get, length, sum_by, Some, None, arith}
use Rattle.std.proofs.lemmas.List.Sums.{sum_by-cons}
use Rattle.away_names.specs.Lookups.{Name}
use Rattle.away_values.specs.declared.types.Ty.{Ty}
use Rattle.away_trees.specs.declared.queries.Expr.{Expr}
use Rattle.away_trees.specs.declared.statements.Decl.{Decl}
use Rattle.call_meaning.proofs.Agreeing.{none_is_not_some, some_is}
use Rattle.call_meaning.specs.Alike.{Slots}
use Rattle.call_meaning.specs.Becomes.{counted}
use Rattle.call_meaning.specs.Expands.{arguments_become, slots_from, strict_tests}
use Rattle.call_meaning.specs.Renamed.{renaming}
use Rattle.call_answers.specs.Calling.{ArgumentStands, null_exit, null_exit_arm}
use Rattle.call_answers.proofs.Chains.{arm_counted, arm_counts, if_counted}

-- ---- the parameters and their defaults

module _ (ty : List (Ty × Bool)) (m : Slots) where
  pub arguments_step : (i k : ℕ) (args : List Expr) (ds : List Decl) (a : Expr) (d : Decl) → slice_get args i ≡ Some a → slice_get ds i ≡ Some d
      → ArgumentStands ty m k a d → arguments_become renaming ty m (suc k) (drop (suc i) args) (drop (suc i) ds) → arguments_become renaming ty m k (drop i args) (drop i ds)
  arguments_step i k [] ds a d e f h rest = absurd (none_is_not_some a e)
  arguments_step i k (b ∷ args) [] a d e f h rest = absurd (none_is_not_some d f)
  arguments_step zero k (b ∷ args) (y ∷ ds) a d e f h rest =
      let g = subst (λ z. ArgumentStands ty m k z y) (sym (some_is b a e)) (subst (λ z. ArgumentStands ty m k a z) (sym (some_is y d f)) h) in
      (g.0, g.1, rest)
  arguments_step (suc i) k (b ∷ args) (y ∷ ds) a d e f h rest = arguments_step i k args ds a d e f h rest

  pub arguments_end : (i k : ℕ) (args : List Expr) (ds : List Decl) → length args ≤ i → length args ≡ length ds → arguments_become renaming ty m k (drop i args) (drop i ds)
  arguments_end zero k [] [] le e = tt
  arguments_end (suc i) k [] [] le e = tt
  arguments_end i k [] (d ∷ ds) le e = absurd (omega (arith, e))
  arguments_end i k (a ∷ args) [] le e = absurd (omega (arith, e))
  arguments_end zero k (a ∷ args) (d ∷ ds) le e = absurd (omega (arith, le))
  arguments_end (suc i) k (a ∷ args) (d ∷ ds) le e = arguments_end i k args ds (omega (arith, le)) (omega (arith, e))

  pub arguments_many : (k : ℕ) (args : List Expr) (ds : List Decl) → arguments_become renaming ty m k args ds → length args ≡ length ds
  arguments_many k [] [] h = refl
  arguments_many k [] (d ∷ ds) h = absurd h
  arguments_many k (a ∷ args) [] h = absurd h
  arguments_many k (a ∷ args) (d ∷ ds) h = ap suc (arguments_many (suc k) args ds h.2)

-- ---- the test of STRICT

pub no_test : (strict : Bool) (label : Name) (slots : List ℕ) → strict ≡ false → strict_tests strict label slots ≡ []
no_test strict label slots e = ap (λ b. strict_tests b label slots) e

no_slot : (strict : Bool) (label : Name) → strict_tests strict label [] ≡ []
no_slot false label = refl
no_slot true label = refl

pub no_slot_test : (strict : Bool) (n i : ℕ) (label : Name) → n ≡ 0 → strict_tests strict label (slots_from n i) ≡ []
no_slot_test strict n i label e = ap (λ k. strict_tests strict label (slots_from k i)) e ∙ no_slot strict label

pub one_test : (strict : Bool) (n i : ℕ) (label : Name) → strict ≡ true → 1 ≤ n → strict_tests strict label (slots_from n i) ≡ null_exit n i label ∷ []
one_test strict zero i label e le = absurd (omega (arith, le))
one_test strict (suc n) i label e le = ap (λ b. strict_tests b label (slots_from (suc n) i)) e

pub tests_count : (strict : Bool) (n i : ℕ) (label : Name) → sum_by counted (strict_tests strict label (slots_from n i)) ≡ 0
tests_count false n i label = refl
tests_count true zero i label = refl
tests_count true (suc n) i label =
    sum_by-cons counted (null_exit (suc n) i label) []
    ∙ ap (λ k. k + 0) (if_counted (null_exit_arm (suc n) i label ∷ []) None ∙ ap (λ k. k + 0) (sum_by-cons arm_counted (null_exit_arm (suc n) i label) [] ∙ ap (λ k. k + 0) (arm_counts (null_exit_arm (suc n) i label))))
