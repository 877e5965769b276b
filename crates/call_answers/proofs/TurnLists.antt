-- The lists in the block of a self call, and the declarations of a loop's variables, one by one.
use Rattle.std.proofs.Common.{◌≡◌, refl, sym, ap, ◌∙◌, subst, ℕ, zero, suc, ◌≤◌, Bool, false, List, [], ◌∷◌, drop, slice_get, length, Some, None, arith}
use Rattle.away_values.specs.declared.operators.ChainOp.{ChainOp}
use Rattle.away_values.specs.declared.operators.ChainOp.TheVariants as chain
use Rattle.away_values.specs.declared.types.Ty.{Ty}
use Rattle.away_trees.specs.declared.queries.Expr.{Expr}
use Rattle.away_trees.specs.declared.queries.Expr.TheVariants as expr
use Rattle.away_trees.specs.declared.statements.Decl.{Decl}
use Rattle.away_trees.specs.declared.statements.Stmt.{Stmt}
use Rattle.call_meaning.proofs.Agreeing.{none_is_not_some, some_is}
use Rattle.call_meaning.specs.Alike.{Slots}
use Rattle.call_meaning.specs.Expands.{null_of, null_test, slots_from}
use Rattle.call_meaning.specs.Renamed.{renaming}
use Rattle.call_meaning.specs.TypedSlots.{no_null}
use Rattle.call_meaning.specs.Untails.{moves_slots, plain_decls, sets_arguments}
use Rattle.call_answers.specs.Walking.{MovesSlot, SetsArgument, nulls_from}

-- ---- lists of assignments

module _ (ty : List (Ty × Bool)) (m : Slots) where
  pub sets_step : (i k : ℕ) (args : List Expr) (xs : List Stmt) (a : Expr) (x : Stmt) → slice_get args i ≡ Some a → slice_get xs i ≡ Some x
      → SetsArgument ty m k a x → sets_arguments renaming ty m (suc k) (drop (suc i) args) (drop (suc i) xs) → sets_arguments renaming ty m k (drop i args) (drop i xs)
  sets_step i k [] xs a x e f h rest = absurd (none_is_not_some a e)
  sets_step i k (b ∷ args) [] a x e f h rest = absurd (none_is_not_some x f)
  sets_step zero k (b ∷ args) (y ∷ xs) a x e f h rest =
      let g = subst (λ z. SetsArgument ty m k z y) (sym (some_is b a e)) (subst (λ z. SetsArgument ty m k a z) (sym (some_is y x f)) h) in
      (g.0, g.1, rest)
  sets_step (suc i) k (b ∷ args) (y ∷ xs) a x e f h rest = sets_step i k args xs a x e f h rest

  pub sets_end : (i k : ℕ) (args : List Expr) (xs : List Stmt) → length args ≤ i → length args ≡ length xs → sets_arguments renaming ty m k (drop i args) (drop i xs)
  sets_end zero k [] [] le e = tt
  sets_end (suc i) k [] [] le e = tt
  sets_end i k [] (x ∷ xs) le e = absurd (omega (arith, e))
  sets_end i k (a ∷ args) [] le e = absurd (omega (arith, e))
  sets_end zero k (a ∷ args) (x ∷ xs) le e = absurd (omega (arith, le))
  sets_end (suc i) k (a ∷ args) (x ∷ xs) le e = sets_end i k args xs (omega (arith, le)) (omega (arith, e))

module _ (ty : List (Ty × Bool)) where
  pub moves_step : (i k j : ℕ) (xs : List Stmt) (x : Stmt) → slice_get xs i ≡ Some x → MovesSlot ty k j x
      → moves_slots ty (length (drop (suc i) xs)) (suc k) (suc j) (drop (suc i) xs) → moves_slots ty (length (drop i xs)) k j (drop i xs)
  moves_step i k j [] x e h rest = absurd (none_is_not_some x e)
  moves_step zero k j (y ∷ xs) x e h rest =
      let g = subst (λ z. MovesSlot ty k j z) (sym (some_is y x e)) h in
      (g.0, g.1, rest)
  moves_step (suc i) k j (y ∷ xs) x e h rest = moves_step i k j xs x e h rest

  pub moves_end : (i k j : ℕ) (xs : List Stmt) → length xs ≤ i → moves_slots ty (length (drop i xs)) k j (drop i xs)
  moves_end zero k j [] le = tt
  moves_end (suc i) k j [] le = tt
  moves_end zero k j (x ∷ xs) le = absurd (omega (arith, le))
  moves_end (suc i) k j (x ∷ xs) le = moves_end i k j xs (omega (arith, le))

  pub plain_step : (i k : ℕ) (ds : List Decl) (d : Decl) → slice_get ds i ≡ Some d → d.default ≡ None → no_null ty k ≡ false → plain_decls ty (suc k) (drop (suc i) ds) → plain_decls ty k (drop i ds)
  plain_step i k [] d e h n rest = absurd (none_is_not_some d e)
  plain_step zero k (b ∷ ds) d e h n rest = (ap (λ (z : Decl). z.default) (some_is b d e) ∙ h, n, rest)
  plain_step (suc i) k (b ∷ ds) d e h n rest = plain_step i k ds d e h n rest

  pub plain_end : (i k : ℕ) (ds : List Decl) → length ds ≤ i → plain_decls ty k (drop i ds)
  plain_end zero k [] le = tt
  plain_end (suc i) k [] le = tt
  plain_end zero k (d ∷ ds) le = absurd (omega (arith, le))
  plain_end (suc i) k (d ∷ ds) le = plain_end i k ds (omega (arith, le))

-- ---- p IS NULL OR ..

pub nulls_step : (i k : ℕ) (xs : List (ChainOp × Expr)) (x : ChainOp × Expr) → slice_get xs i ≡ Some x → x.0 ≡ chain.Or → x.1 ≡ null_of k
    → drop (suc i) xs ≡ nulls_from (suc k) (length (drop (suc i) xs)) → drop i xs ≡ nulls_from k (length (drop i xs))
nulls_step i k [] x e f g rest = absurd (none_is_not_some x e)
nulls_step zero k (y ∷ xs) x e f g rest =
    let z : y ≡ (chain.Or, null_of k) = some_is y x e ∙ (λ j. (f j, g j)) in
    λ j. z j ∷ rest j
nulls_step (suc i) k (y ∷ xs) x e f g rest = nulls_step i k xs x e f g rest

pub nulls_end : (i k : ℕ) (xs : List (ChainOp × Expr)) → length xs ≤ i → drop i xs ≡ nulls_from k (length (drop i xs))
nulls_end zero k [] le = refl
nulls_end (suc i) k [] le = refl
nulls_end zero k (x ∷ xs) le = absurd (omega (arith, le))
nulls_end (suc i) k (x ∷ xs) le = nulls_end i k xs (omega (arith, le))

-- of two slots and more
pub null_test_chain : (n from more : ℕ) (first : Expr) (xs : List (ChainOp × Expr)) → more ≡ suc from → suc (length xs) ≡ n → 1 ≤ length xs → first ≡ null_of from → xs ≡ nulls_from more (length xs)
    → expr.Chain first xs ≡ null_test (slots_from n from)
null_test_chain n from more first [] o e le f g = absurd (omega (arith, le))
null_test_chain n from more first (x ∷ xs) o e le f g =
    (λ i. expr.Chain (f i) ((g ∙ ap (λ k. nulls_from k (suc (length xs))) o) i)) ∙ ap (λ k. null_test (slots_from k from)) e
