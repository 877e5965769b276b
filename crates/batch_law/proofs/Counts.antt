-- Each call that has an answer has one row.
use Rattle.std.proofs.Common.{◌≡◌, ℕ, zero, suc, ◌+◌, Bool, true, false, List, [], ◌∷◌, ◌++◌, map, filter, length, if◌then◌else◌, refl, ap, sym, ◌∙◌, append-nil, length-append, arith}
use Rattle.std.proofs.lemmas.List.Elements.{filter-append}
use Rattle.std.specs.Ordering.{is_lt}
use Rattle.away_trees.specs.declared.queries.Query.{Query}
use Rattle.away_values.specs.declared.values.Answer.{Answer}
use Rattle.away_values.specs.declared.values.Answer.TheVariants as answer
use Rattle.away_values.specs.declared.values.Value.{Value}
use Rattle.sql_meaning.specs.Context.{Rows, at}
use Rattle.sql_meaning.specs.KeyOrder.{keys_cmp}
use Rattle.sql_meaning.specs.Ordered.{Keyed}
use Rattle.sql_meaning.specs.Selects.{sorted}
use Rattle.sql_meaning.specs.Working.{sql}
use Rattle.sql_meaning.proofs.Bounds.{answer_stays}
use Rattle.sql_meaning.proofs.Sorting.{same_rows}
use Rattle.batch_law.specs.Batches.{by_first, answer_row, ended_in, ended_before, answer_rows}
use Rattle.batch_law.specs.Starts.{Start}

module _ (one : Query) (T : List Rows) (begins : (vs : List Value) → sql one T vs 0 ≡ answer.More) (test : List Value → Bool) where
  abbrev count : Rows → ℕ
  count rows = length (filter test rows)

  counts : (xs ys : Rows) → count (xs ++ ys) ≡ count xs + count ys
  counts xs ys = ap length (filter-append test xs ys) ∙ length-append (filter test xs) (filter test ys)

  abbrev at_bound : Start → ℕ → Answer
  at_bound s k = sql one T s.1 k

  -- one call
  abbrev tells : Start → Answer → Answer → Rows
  tells s = answer_row (at s.0 0)

  stays : (s : Start) (k : ℕ) (x : Answer) → at_bound s k ≡ x → (x ≡ answer.More → ⊥) → at_bound s (suc k) ≡ x
  stays s k x e other = answer_stays one T s.1 k (suc k) (omega arith) (λ m. other (sym e ∙ m)) ∙ e

  next_answer : (s : Start) (k : ℕ) (x : Answer) → at_bound s k ≡ x
      → count (tells s answer.More x) + count (tells s x (at_bound s (suc k))) ≡ count (tells s answer.More (at_bound s (suc k)))
  next_answer s k answer.More e = omega arith
  next_answer s k (answer.Value v) e =
      let same = stays s k (answer.Value v) e (λ c. cc) in
      plus_none (count (tells s answer.More (answer.Value v))) ∙ ap (λ (y : Answer). count (tells s answer.More y)) (sym same)
    where
      plus_none : (n : ℕ) → n + 0 ≡ n
      plus_none n = omega arith
  next_answer s k (answer.Fault c) e =
      let same = stays s k (answer.Fault c) e (λ c. cc) in
      plus_none (count (tells s answer.More (answer.Fault c))) ∙ ap (λ (y : Answer). count (tells s answer.More y)) (sym same)
    where
      plus_none : (n : ℕ) → n + 0 ≡ n
      plus_none n = omega arith
  next_answer s k (answer.Shape n) e =
      let same = stays s k (answer.Shape n) e (λ c. cc) in
      ap (λ (y : Answer). count (tells s answer.More y)) (sym same)

  one_answer : (s : Start) (k : ℕ) → count (ended_before one T k (s ∷ [])) ≡ count (tells s answer.More (at_bound s k))
  one_answer s zero = ap (λ (y : Answer). count (tells s answer.More y)) (sym (begins s.1))
  one_answer s (suc k) =
      counts (ended_before one T k (s ∷ [])) (ended_in one T k (s ∷ []))
      ∙ ((λ t. one_answer s k t + count (append-nil (tells s (at_bound s k) (at_bound s (suc k))) t)) ∙ next_answer s k (at_bound s k) refl)

  -- a call in front of others
  in_front : (s : Start) (ss : List Start) (k : ℕ) → count (ended_before one T k (s ∷ ss)) ≡ count (ended_before one T k (s ∷ [])) + count (ended_before one T k ss)
  in_front s ss zero = refl
  in_front s ss (suc k) =
      let e = counts (ended_before one T k (s ∷ ss)) (ended_in one T k (s ∷ ss)) in
      let e1 = counts (ended_before one T k (s ∷ [])) (ended_in one T k (s ∷ [])) in
      let e2 = counts (ended_before one T k ss) (ended_in one T k ss) in
      let f = counts (tells s (at_bound s k) (at_bound s (suc k))) (ended_in one T k ss) in
      let f1 = counts (tells s (at_bound s k) (at_bound s (suc k))) [] in
      let h = in_front s ss k in
      omega (arith, e, e1, e2, f, f1, h)

  pub each_answer : (k : ℕ) (ss : List Start) → count (ended_before one T k ss) ≡ count (answer_rows one T k ss)
  each_answer zero [] = refl
  each_answer (suc k) [] = none_before k
    where
      none_before : (k : ℕ) → count (ended_before one T k [] ++ []) ≡ 0
      none_before zero = refl
      none_before (suc k) = ap count (append-nil (ended_before one T k [] ++ [])) ∙ none_before k
  each_answer k (s ∷ ss) =
      in_front s ss k
      ∙ ((λ t. one_answer s k t + each_answer k ss t) ∙ sym (counts (tells s answer.More (at_bound s k)) (answer_rows one T k ss)))

-- ---- rows in order

module _ (test : List Value → Bool) where
  longer : (b : Bool) (x : Keyed) (y : List Value) (xs : List Keyed) (ys : Rows) → length ys ≡ length xs
      → length (if b then y ∷ ys else ys) ≡ length (if b then x ∷ xs else xs)
  longer true x y xs ys h = ap suc h
  longer false x y xs ys h = h

  of_seconds : (xs : List Keyed) → length (filter test (map (λ (x : Keyed). x.1) xs)) ≡ length (filter (λ (x : Keyed). test x.1) xs)
  of_seconds [] = refl
  of_seconds (x ∷ xs) =
      longer (test x.1) x x.1 (filter (λ (y : Keyed). test y.1) xs) (filter test (map (λ (y : Keyed). y.1) xs)) (of_seconds xs)

  of_keyed : (key : List Value → List Value) (all : Rows)
      → length (filter (λ (x : Keyed). test x.1) (map (λ (row : List Value). (key row, row)) all)) ≡ length (filter test all)
  of_keyed key [] = refl
  of_keyed key (row ∷ all) =
      sym
      (longer (test row) (key row, row) row (filter (λ (x : Keyed). test x.1) (map (λ (row : List Value). (key row, row)) all)) (filter test all)
      (sym (of_keyed key all)))

  pub in_order_counts : (all : Rows) → length (filter test (by_first all)) ≡ length (filter test all)
  in_order_counts all =
      let keyed : List Keyed = map (λ (row : List Value). (at row 0 ∷ [], row)) all in
      let before = λ (xs : List Value) (ys : List Value). is_lt (keys_cmp (false ∷ []) xs ys) in
      of_seconds (sorted before keyed)
      ∙ (same_rows before (λ (x : Keyed). test x.1) keyed ∙ of_keyed (λ row. at row 0 ∷ []) all)
