-- Of the branches that stand in the second term one is open: that of the row's label.
use Rattle.std.proofs.Common.{◌≡◌, ℕ, zero, suc, ◌+◌, ◌<◌, Bool, true, false, not, ◌&&◌, ◌||◌, nat_lt, pos, List, [], ◌∷◌, ◌++◌, length, get_or, Some, None, Ok, refl, ap, ◌∙◌, arith}
use Rattle.std.specs.Prelude.{slice_get}
use Rattle.std.proofs.lemmas.Bool.{le-ltb, lt-ltb}
use Rattle.std.proofs.lemmas.Option.{same_Some}
use Rattle.away_trees.specs.declared.queries.Expr.{Expr}
use Rattle.away_trees.proofs.Equations as eq
use Rattle.away_values.specs.declared.operators.CmpOp.TheVariants as cmp
use Rattle.away_values.specs.declared.types.Ty.{Ty}
use Rattle.away_values.specs.declared.values.Value.{Value}
use Rattle.away_values.specs.declared.values.Value.TheVariants as val
use Rattle.away_values.specs.Operators.{compare, is_true}
use Rattle.away_values.specs.Results.{Or, and_then, mapped, each_joined}
use Rattle.sql_meaning.specs.Context.{Rows, Context, at, inside}
use Rattle.sql_meaning.specs.Meaning.{meaning, rows_of_select}
use Rattle.sql_meaning.specs.Trees.{col, number}
use Rattle.sql_meaning.proofs.Returns.{Sees}
use Rattle.sql_meaning.proofs.SelectRows.{Is, is_number, is_col}
use Rattle.call_forms.specs.Bodies.{body_of}
use Rattle.call_forms.specs.Forms.{params_of}
use Rattle.call_forms.specs.Scopes.{Scope, paired}
use Rattle.call_forms.specs.TailRuns.{scope_of}
use Rattle.call_forms.specs.Carrying.{behind, parts, is_label, of_row, branch, branches}
use Rattle.call_forms.specs.References.{Parts, no_column}
use Rattle.cte_law.proofs.Bodies.{body_works}
use Rattle.cte_law.proofs.ScopesAlike.{paired_relates}
use Rattle.cte_law.proofs.Sequences.{alone, after_nothing}
use Rattle.cte_law.proofs.Terms.{Holds}
use Rattle.cte_law.proofs.Visits.{Visited, walked, rows_of_visit}
use Rattle.cte_law.proofs.WorkingRows.{Carries, read_from}
use Rattle.cte_law.proofs.Works.{Works, if_open, gated_rows}
use Rattle.cte_law.proofs.Worlds.{World, frame_in, OverTables}

-- ---- numbers of labels

abbrev equal : ℕ → ℕ → Bool
equal a n = not (nat_lt a n) && not (nat_lt n a)

test_is : (a n : ℕ) → is_true (compare cmp.Eq (val.Int (pos a)) (val.Int (pos n))) ≡ equal a n
test_is a n = by (equal a n)
  where
    by : (b : Bool) → is_true (val.Bool b) ≡ b
    by true = refl
    by false = refl

same_label : (n : ℕ) → equal n n ≡ true
same_label n = λ i. not (irreflexive n i) && not (irreflexive n i)
  where
    irreflexive : (n : ℕ) → nat_lt n n ≡ false
    irreflexive n = le-ltb n n (omega arith)

less_label : (a n : ℕ) → a < n → equal a n ≡ false
less_label a n h = ap (λ b. not b && not (nat_lt n a)) (lt-ltb a n h)

greater_label : (a n : ℕ) → n < a → equal a n ≡ false
greater_label a n h = λ i. not (le-ltb a n (omega (arith, h)) i) && not (lt-ltb n a h i)

-- ---- a visit

module _ (w : World) where
  -- label i, counted from 0, is block b
  abbrev pub scope_at : ℕ → ℕ → List Value → Scope Value
  scope_at i b row = scope_of (frame_in w) w.anf w.tail i b row

  abbrev pub visit_at : ℕ → ℕ → List Value → Visited
  visit_at i b row = walked w (body_of w.anf w.tail b) (scope_at i b row)

-- ---- what is carried, in the row

shifted : (x : Value) (ys : List Value) (i : ℕ) (ts : List Ty) → read_from (λ j. at (x ∷ ys) j) (suc i) ts ≡ read_from (λ j. at ys j) i ts
shifted x ys i [] = refl
shifted x ys i (t ∷ ts) = ap (λ zs. at ys i ∷ zs) (shifted x ys (suc i) ts)

read_first : (xs rest : List Value) (ts : List Ty) → length xs ≡ length ts → read_from (λ j. at (xs ++ rest) j) 0 ts ≡ xs
read_first [] rest [] p = refl
read_first (x ∷ xs) rest (t ∷ ts) p = ap (λ ys. x ∷ ys) (shifted x (xs ++ rest) 0 ts ∙ read_first xs rest ts (omega (arith, p)))
read_first [] rest (t ∷ ts) p = absurd (omega (arith, p))
read_first (x ∷ xs) rest [] p = absurd (omega (arith, p))

at_behind : (xs rest : List Value) (ts : List Ty) (place : ℕ) → length xs ≡ length ts → at (xs ++ rest) (behind ts place) ≡ at rest place
at_behind [] rest [] place p = refl
at_behind (x ∷ xs) rest (t ∷ ts) place p = at_behind xs rest ts place (omega (arith, p))
at_behind [] rest (t ∷ ts) place p = absurd (omega (arith, p))
at_behind (x ∷ xs) rest [] place p = absurd (omega (arith, p))

-- ---- a branch beside a row

module _ (w : World) (ok : OverTables w) (carried : List Ty) (xs : List Value) (as_many : length xs ≡ length carried) (cx : Context)
    (sees : Sees w.tables cx) (go : Value) (a : ℕ) (rest : List Value) where
  abbrev row : List Value
  row = go ∷ val.Int (pos a) ∷ (xs ++ rest)

  abbrev there : Context
  there = inside (row ∷ []) cx

  abbrev visited : ℕ → ℕ → Or Rows
  visited i b = rows_of_visit w xs (visit_at w i b rest)

  abbrev params_at : ℕ → List ℕ
  params_at b = params_of (slice_get w.anf.blocks b)

  abbrev places_at : ℕ → List ℕ
  places_at i = get_or w.tail.places i []

  abbrev made : ℕ → ℕ → Parts
  made i b =
      parts w.table w.types carried w.tail.columns w.result 0 (paired (of_row carried) (no_column 0) (params_at b) (places_at i)) 1 (body_of w.anf w.tail b)

  holds_place : (place : ℕ) → Holds ((val.Bool true ∷ []) ∷ []) there.frames (of_row carried place) (at rest place)
  holds_place place = at_behind xs rest carried place as_many

  carries : Carries carried xs there.frames 0
  carries =
      shifted go (val.Int (pos a) ∷ (xs ++ rest)) 1 carried
      ∙ (shifted (val.Int (pos a)) (xs ++ rest) 0 carried ∙ read_first xs rest carried as_many)

  branch_works : (i b : ℕ) → Works there ((val.Bool true ∷ []) ∷ []) (made i b) (visited i b)
  branch_works i b =
      body_works w carried xs as_many ok (body_of w.anf w.tail b) there sees ((val.Bool true ∷ []) ∷ []) 1 refl 0
      (paired (of_row carried) (no_column 0) (params_at b) (places_at i)) (scope_at w i b rest) carries refl
      (paired_relates (Holds ((val.Bool true ∷ []) ∷ []) there.frames) (of_row carried) (λ place. at rest place) (no_column 0) val.Null holds_place refl
      (params_at b) (places_at i))

  abbrev test_of : ℕ → Expr
  test_of n = is_label n

  is_test : (n : ℕ) → Is (inside [] (inside [] there)) (test_of n) (compare cmp.Eq (val.Int (pos a)) (val.Int (pos n)))
  is_test n =
      let here : Context = inside [] (inside [] there) in
      record {
        gives =
            ap (λ x. x.value here) (eq.of_compare meaning cmp.Eq (col 2 0 1) (number (pos n)))
            ∙ (λ i. and_then ((is_col here 2 0 1).gives i) (λ v. mapped (compare cmp.Eq v) ((is_number here (pos n)).gives i)));
        single =
            ap (λ x. x.aggregates) (eq.of_compare meaning cmp.Eq (col 2 0 1) (number (pos n)))
            ∙ (λ i. (is_col here 2 0 1).single i || (is_number here (pos n)).single i);
      }

  -- the branch of label i, whose number is i + 1
  branch_rows : (i b : ℕ) (is_open : Bool) → equal a (suc i) ≡ is_open
      → rows_of_select (branch w.table w.types carried w.tail.columns w.result (suc i) (params_at b) (places_at i) (body_of w.anf w.tail b)) there
      ≡ if_open is_open (visited i b)
  branch_rows i b is_open h =
      gated_rows there (test_of (suc i)) (compare cmp.Eq (val.Int (pos a)) (val.Int (pos (suc i)))) (made i b) (visited i b) is_open (is_test (suc i))
      (test_is a (suc i) ∙ h) (branch_works i b)

  abbrev pub all_rows : ℕ → List ℕ → Or Rows
  all_rows n bs = each_joined (λ s. rows_of_select s there) (branches w.table w.types carried w.result w.anf w.tail n bs)

  -- no label from n on
  pub none_open : (n : ℕ) (bs : List ℕ) → a < suc n → all_rows n bs ≡ Ok []
  none_open n [] h = refl
  none_open n (b ∷ bs) h =
      (λ i. and_then (branch_rows n b false (less_label a (suc n) h) i) (λ ys. mapped (λ zs. ys ++ zs) (none_open (suc n) bs (omega (arith, h)) i)))

  pub one_open : (i n : ℕ) (bs : List ℕ) (b l : ℕ) → a ≡ suc l → l ≡ n + i → slice_get bs i ≡ Some b → all_rows n bs ≡ visited l b
  one_open i n [] b l h k found = absurd (cc)
  one_open zero n (x ∷ bs) b l h k found =
      let is_n : n ≡ l = omega (arith, k) in
      let is_a : a ≡ suc n = omega (arith, h, is_n) in
      (λ i. and_then (branch_rows n x true (ap (λ a. equal a (suc n)) is_a ∙ same_label (suc n)) i)
      (λ ys. mapped (λ zs. ys ++ zs) (none_open (suc n) bs (omega (arith, is_a)) i)))
      ∙ (alone (visited n x) ∙ (λ i. visited (is_n i) (same_Some x b found i)))
  one_open (suc i) n (x ∷ bs) b l h k found =
      (λ t. and_then (branch_rows n x false (greater_label a (suc n) (omega (arith, h, k))) t)
      (λ ys. mapped (λ zs. ys ++ zs) (one_open i (suc n) bs b l h (omega (arith, k)) found t)))
      ∙ after_nothing (visited l b)

  -- no label has the row's number
  pub not_there : (i n : ℕ) (bs : List ℕ) → a ≡ suc (n + i) → slice_get bs i ≡ None → all_rows n bs ≡ Ok []
  not_there i n [] h missed = refl
  not_there zero n (x ∷ bs) h missed = absurd (some_none missed)
    where
      some_none : Some x ≡ None → ⊥
      some_none p = cc
  not_there (suc i) n (x ∷ bs) h missed =
      (λ t. and_then (branch_rows n x false (greater_label a (suc n) (omega (arith, h))) t)
      (λ ys. mapped (λ zs. ys ++ zs) (not_there i (suc n) bs (omega (arith, h)) missed t)))
