-- The working tables at a bound, and the answer at greater ones.
use Rattle.std.proofs.Common.{◌≡◌, ◌≢◌, refl, ap, sym, ◌∙◌, ℕ, zero, suc, ◌+◌, ◌-◌, ◌≤◌, List, [], ◌∷◌, ◌++◌, Option, Some, None, Ok, Err, arith}
use Rattle.away_values.specs.declared.values.Value.{Value}
use Rattle.away_values.specs.declared.values.Class.{Class}
use Rattle.away_values.specs.declared.values.Answer.TheVariants as answer
use Rattle.away_trees.specs.declared.queries.Query.{Query}
use Rattle.away_values.specs.Results.{Or, and_then, mapped}
use Rattle.away_trees.specs.Algebra.{query_of}
use Rattle.sql_meaning.specs.Context.{Rows, outermost}
use Rattle.sql_meaning.specs.Expressions.{SelectMeaning, RecursiveMeaning}
use Rattle.sql_meaning.specs.Laws.{AreFilledBefore}
use Rattle.sql_meaning.specs.Meaning.{meaning}
use Rattle.sql_meaning.specs.Working.{Bounded, next_rows, working, all_working, worked, recursive_table, over_table, rows_with, rows, answered, sql}

-- ---- the first table that isn't filled

module _ (r : RecursiveMeaning) (T : List Rows) (args : List Value) where
  abbrev step : Rows → Or Rows
  step = next_rows r T args

  abbrev W : ℕ → Or Rows
  W = working r T args

  -- the tables before the i-th, one after the other
  abbrev before : ℕ → Or Rows
  before zero = Ok []
  before (suc i) = all_working r T args i

  plain : (o : Or Rows) → mapped (λ (rows : Rows). [] ++ rows) o ≡ o
  plain (Ok rows) = refl
  plain (Err c) = refl

  all_is : (i : ℕ) → all_working r T args i ≡ and_then (before i) (λ done. mapped (λ rows. done ++ rows) (W i))
  all_is zero = sym (plain (W zero))
  all_is (suc i) = refl

  -- where the tables before the i-th are filled, the search stands at the i-th
  abbrev Stands : ℕ → Type 0
  Stands i = (done : Rows) × (before i ≡ Ok done) × ((k : ℕ) → recursive_table r T args (i + k) ≡ worked step k done (W i))

  stands : (i : ℕ) → AreFilledBefore r T args i → Stands i
  stands zero h = ([], refl, λ k. ap (recursive_table r T args) (omega arith))
  stands (suc i) h =
      let s = stands i (λ j p. h j (omega (arith, p))) in
      let f = h i (omega arith) in
      let whole : all_working r T args i ≡ Ok (s.0 ++ f.0 ∷ f.1) =
      all_is i ∙ (λ t. and_then (s.1 t) (λ done. mapped (λ rows. done ++ rows) (f.2 t))) in (
        s.0 ++ f.0 ∷ f.1,
        whole,
        λ k.
            ap (recursive_table r T args) (at_suc i k) ∙ (s.2 (suc k) ∙ (ap (worked step (suc k) s.0) f.2 ∙ ap (λ o. worked step k (s.0 ++ f.0 ∷ f.1) (and_then o step)) (sym f.2))),
      )
    where
      at_suc : (i k : ℕ) → suc i + k ≡ i + suc k
      at_suc i k = omega arith

  at_bound : (i k : ℕ) → i ≤ k → (s : Stands i) → recursive_table r T args k ≡ worked step (k - i) s.0 (W i)
  at_bound i k p s =
      let q : k ≡ i + (k - i) = omega (arith, p) in
      ap (recursive_table r T args) q ∙ s.2 (k - i)

  pub no_table : (k : ℕ) → AreFilledBefore r T args (k + 1) → recursive_table r T args k ≡ None
  no_table k h =
      let s = stands k (λ j p. h j (omega (arith, p))) in
      let f = h k (omega arith) in
      let q : k ≡ k + 0 = omega arith in
      ap (recursive_table r T args) q ∙ (s.2 0 ∙ ap (worked step 0 s.0) f.2)

  empty_now : (k : ℕ) (done : Rows) → worked step k done (Ok []) ≡ Some (Ok done)
  empty_now k done = refl

  pub empty_table : (i k : ℕ) → i ≤ k → AreFilledBefore r T args i → W i ≡ Ok [] → recursive_table r T args k ≡ Some (all_working r T args i)
  empty_table i k p h e =
      let s = stands i h in
      let whole : all_working r T args i ≡ Ok (s.0 ++ []) =
      all_is i ∙ (λ t. and_then (s.1 t) (λ done. mapped (λ rows. done ++ rows) (e t))) in
      at_bound i k p s ∙ (ap (worked step (k - i) s.0) e ∙ ap Some (ap Ok (sym (append-nil s.0)) ∙ sym whole))
    where
      append-nil : (xs : Rows) → xs ++ [] ≡ xs
      append-nil [] = refl
      append-nil (x ∷ xs) = ap (λ ys. x ∷ ys) (append-nil xs)

  pub faulty_table : (i k : ℕ) (c : Class) → i ≤ k → AreFilledBefore r T args i → W i ≡ Err c → recursive_table r T args k ≡ Some (Err c)
  faulty_table i k c p h e = let s = stands i h in at_bound i k p s ∙ ap (worked step (k - i) s.0) e

-- ---- greater bounds

none_some : {A : Type 0} (x : A) → None ≡ Some x → ⊥
none_some x h = cc

stays : (step : Rows → Or Rows) (k : ℕ) (done : Rows) (now : Or Rows) (x : Or Rows) → worked step k done now ≡ Some x → worked step (suc k) done now ≡ Some x
stays step k done (Err c) x h = h
stays step k done (Ok []) x h = h
stays step zero done (Ok (row ∷ more)) x h = absurd (none_some x h)
stays step (suc k) done (Ok (row ∷ more)) x h = stays step k (done ++ row ∷ more) (step (row ∷ more)) x h

over_both : (rows : SelectMeaning) (T : List Rows) (args : List Value) (one two : Bounded Rows) → ((x : Or Rows) → one ≡ Some x → two ≡ Some x) → (x : Or Rows) → over_table rows T args one ≡ Some x → over_table rows T args two ≡ Some x
over_both rows T args None two h x e = absurd (none_some x e)
over_both rows T args (Some o) two h x e = ap (over_table rows T args) (h o refl) ∙ e

next : (r : Option RecursiveMeaning) (rows : SelectMeaning) (T : List Rows) (args : List Value) (k : ℕ) (x : Or Rows) → rows_with r rows T args k ≡ Some x → rows_with r rows T args (suc k) ≡ Some x
next None rows T args k x h = h
next (Some r) rows T args k x h =
    over_both rows T args (recursive_table r T args k) (recursive_table r T args (suc k)) (λ y e. stays (next_rows r T args) k [] (r.first (outermost T args)) y e) x h

rows_after : (q : Query) (T : List Rows) (args : List Value) (k n : ℕ) (x : Or Rows) → rows q T args k ≡ Some x → rows q T args (n + k) ≡ Some x
rows_after q T args k zero x h = ap (rows q T args) (zero_add k) ∙ h
  where
    zero_add : (k : ℕ) → 0 + k ≡ k
    zero_add k = omega arith
rows_after q T args k (suc n) x h =
    ap (rows q T args) (suc_add n k) ∙ next (query_of meaning q).recursive (query_of meaning q).rows T args (n + k) x (rows_after q T args k n x h)
  where
    suc_add : (n k : ℕ) → suc n + k ≡ suc (n + k)
    suc_add n k = omega arith

pub rows_stay : (q : Query) (T : List Rows) (args : List Value) (k j : ℕ) (x : Or Rows) → k ≤ j → rows q T args k ≡ Some x → rows q T args j ≡ Some x
rows_stay q T args k j x p h =
    let e : j ≡ (j - k) + k = omega (arith, p) in
    ap (rows q T args) e ∙ rows_after q T args k (j - k) x h

pub answer_stays : (q : Query) (T : List Rows) (args : List Value) (k j : ℕ) → k ≤ j → sql q T args k ≢ answer.More → sql q T args j ≡ sql q T args k
answer_stays q T args k j p more = by (rows q T args k) refl
  where
    by : (o : Bounded Rows) → rows q T args k ≡ o → sql q T args j ≡ sql q T args k
    by None h = absurd (more (ap answered h))
    by (Some x) h = ap answered (rows_stay q T args k j x p h) ∙ sym (ap answered h)
