-- A query over many calls tells what the function answers at each.
use Rattle.std.proofs.Common.{◌≡◌, ◌≢◌, ◌⊎◌, inl, inr, ℕ, zero, suc, ◌+◌, ◌*◌, ◌<◌, ◌≤◌, Bool, true, false, if◌then◌else◌, List, [], ◌∷◌, ◌++◌, map, filter, length, Some, None, Ok, Err, refl, ap, sym, ◌∙◌, subst, arith}
use Rattle.std.specs.Prelude.{All, Any, IsSortedByKey, slice_index_or}
use Rattle.std.specs.List.{AllByRecursion}
use Rattle.std.specs.Ordering.{is_lt, ordering_then}
use Rattle.std.specs.declared.cmp.Ordering.{Ordering}
use Rattle.std.specs.declared.cmp.Ordering.TheVariants.{Less, Equal, Greater}
use Rattle.away_trees.specs.declared.queries.Query.{Query}
use Rattle.away_values.specs.declared.values.Answer.{Answer}
use Rattle.away_values.specs.declared.values.Answer.TheVariants as answer
use Rattle.away_values.specs.declared.values.Class.{Class}
use Rattle.away_values.specs.declared.values.Value.{Value}
use Rattle.away_values.specs.declared.values.Value.TheVariants as val
use Rattle.sql_meaning.specs.Context.{Rows, at}
use Rattle.sql_meaning.specs.Equivalent.{FunctionAnswer, IsEquivalent}
use Rattle.sql_meaning.specs.KeyOrder.{keys_cmp, value_cmp}
use Rattle.sql_meaning.specs.Ordered.{Keyed, Before, IsOrder, InOrder}
use Rattle.sql_meaning.specs.Selects.{put, sorted}
use Rattle.sql_meaning.specs.Working.{Bounded, rows, sql}
use Rattle.sql_meaning.proofs.Bounds.{answer_stays}
use Rattle.sql_meaning.proofs.KeyOrders.{keys_in_order}
use Rattle.sql_meaning.proofs.Sorting.{in_order}
use Rattle.batch_law.specs.Batches.{Case, fault, going, over, by_first, answer_row, FaultsFirst, SomeIsMore, NoneIsMore, ended_before, answer_rows, IsBatch, AnswersOfEach}
use Rattle.batch_law.specs.FunctionAnswers.{HasValue, IsValueOrFault, call_row, CallAnswer, call_rows, Tells, AnswersAsCalls}
use Rattle.batch_law.specs.Starts.{working_table, Start}

-- ---- all and some of a list

abbrev SomeOf : {X : Type 0} → (X → Type 0) → List X → Type 0
SomeOf P [] = ⊥
SomeOf P (x ∷ xs) = P x ⊎ SomeOf P xs

pub all_of : {X : Type 0} (P : X → Type 0) (xs : List X) → AllByRecursion P xs → All P xs
all_of P [] h k d less = absurd (omega (arith, less))
all_of P (x ∷ xs) h zero d less = h.0
all_of P (x ∷ xs) h (suc k) d less = all_of P xs h.1 k d (omega (arith, less))

each_of : {X : Type 0} (P : X → Type 0) (xs : List X) → All P xs → AllByRecursion P xs
each_of P [] h = tt
each_of P (x ∷ xs) h = (h zero x (omega arith), each_of P xs (λ k d less. h (suc k) d (omega (arith, less))))

any_of : {X : Type 0} (P : X → Type 0) (xs : List X) → SomeOf P xs → Any P xs
any_of P [] h = absurd h
any_of P (x ∷ xs) (inl p) = (zero, x, omega arith, refl, p)
any_of P (x ∷ xs) (inr h) =
    let found = any_of P xs h in
    (suc found.0, found.1, (let less = found.2 in omega (arith, less)), found.3, found.4)

both : {X : Type 0} (P Q R : X → Type 0) → ((x : X) → P x → Q x → R x) → (xs : List X) → AllByRecursion P xs → AllByRecursion Q xs → AllByRecursion R xs
both P Q R go [] h g = tt
both P Q R go (x ∷ xs) h g = (go x h.0 g.0, both P Q R go xs h.1 g.1)

among : {X : Type 0} (P Q R : X → Type 0) → ((x : X) → P x → Q x → R x) → (xs : List X) → AllByRecursion P xs → SomeOf Q xs → SomeOf R xs
among P Q R go [] h g = absurd g
among P Q R go (x ∷ xs) h (inl q) = inl (go x h.0 q)
among P Q R go (x ∷ xs) h (inr g) = inr (among P Q R go xs h.1 g)

none_of : {X : Type 0} (P Q : X → Type 0) → ((x : X) → P x → Q x → ⊥) → (xs : List X) → AllByRecursion P xs → SomeOf Q xs → ⊥
none_of P Q go [] h g = g
none_of P Q go (x ∷ xs) h (inl q) = go x h.0 q
none_of P Q go (x ∷ xs) h (inr g) = none_of P Q go xs h.1 g

-- ---- rows in order

abbrev by_keys : Before
by_keys xs ys = is_lt (keys_cmp (false ∷ []) xs ys)

is_order : IsOrder by_keys
is_order = keys_in_order (record { descending = false; value = λ cx. Ok val.Null } ∷ [])

-- the key of a row is its first value
abbrev HasItsKey : Keyed → Type 0
HasItsKey x = x.0 ≡ at x.1 0 ∷ []

kept_case : (b : Bool) (x y : Keyed) (ys more : List Keyed) → HasItsKey x → AllByRecursion HasItsKey (y ∷ ys) → AllByRecursion HasItsKey more
    → AllByRecursion HasItsKey (if b then y ∷ more else x ∷ (y ∷ ys))
kept_case true x y ys more p h k = (h.0, k)
kept_case false x y ys more p h k = (p, h)

kept_put : (x : Keyed) (ys : List Keyed) → HasItsKey x → AllByRecursion HasItsKey ys → AllByRecursion HasItsKey (put by_keys x ys)
kept_put x [] p h = (p, tt)
kept_put x (y ∷ ys) p h = kept_case (by_keys y.0 x.0) x y ys (put by_keys x ys) p h (kept_put x ys p h.1)

kept_sorted : (xs : List Keyed) → AllByRecursion HasItsKey xs → AllByRecursion HasItsKey (sorted by_keys xs)
kept_sorted [] h = tt
kept_sorted (x ∷ xs) h = kept_put x (sorted by_keys xs) h.0 (kept_sorted xs h.1)

keys_are : (all : Rows) → AllByRecursion HasItsKey (map (λ (row : List Value). (at row 0 ∷ [], row)) all)
keys_are [] = tt
keys_are (row ∷ all) = (refl, keys_are all)

last_equal : (o : Ordering) → is_lt (ordering_then o Equal) ≡ is_lt o
last_equal Less = refl
last_equal Equal = refl
last_equal Greater = refl

abbrev key : List Value → Value
key row = at row 0

neighbours : (x y : Keyed) → HasItsKey x → HasItsKey y → by_keys y.0 x.0 ≡ false → is_lt (value_cmp (key y.1) (key x.1)) ≡ false
neighbours x y p q h = sym (last_equal (value_cmp (key y.1) (key x.1))) ∙ ((λ t. by_keys (sym q t) (sym p t)) ∙ h)

abbrev rows_in : List Keyed → Rows
rows_in xs = map (λ (x : Keyed). x.1) xs

ascend : (xs : List Keyed) → AllByRecursion HasItsKey xs → InOrder by_keys xs → (k : ℕ) (d : List Value) → suc k < length (rows_in xs)
    → is_lt (value_cmp (key (slice_index_or (rows_in xs) (suc k) d)) (key (slice_index_or (rows_in xs) k d))) ≡ false
ascend [] h o k d less = absurd (omega (arith, less))
ascend (x ∷ []) h o k d less = absurd (omega (arith, less))
ascend (x ∷ (y ∷ ys)) h o zero d less = neighbours x y h.0 h.1.0 o.0.0
ascend (x ∷ (y ∷ ys)) h o (suc k) d less = ascend (y ∷ ys) h.1 o.1 k d (omega (arith, less))

by_first_ascends : (all : Rows) → IsSortedByKey key value_cmp (by_first all)
by_first_ascends all k d low less =
    let xs : List Keyed = map (λ (row : List Value). (at row 0 ∷ [], row)) all in
    let next : suc k ≡ k + 1 = omega arith in
    subst (λ i. is_lt (value_cmp (key (slice_index_or (by_first all) i d)) (key (slice_index_or (by_first all) k d))) ≡ false) next
    (ascend (sorted by_keys xs) (kept_sorted xs (keys_are all)) (in_order by_keys is_order xs) k d (omega (arith, less)))

-- ---- rows of answers

abbrev IsMore : Answer → Type 0
IsMore answer.More = Unit {0}
IsMore a = ⊥

is_over : (a : Answer) → a ≢ answer.More → ((k : ℕ) → a ≢ answer.Shape k) → IsValueOrFault a
is_over (answer.Value v) more shape = tt
is_over (answer.Fault c) more shape = tt
is_over answer.More more shape = absurd (more refl)
is_over (answer.Shape k) more shape = absurd (shape k refl)

value_is_over : (a : Answer) → HasValue a → IsValueOrFault a
value_is_over (answer.Value v) h = tt
value_is_over (answer.Fault c) h = absurd h
value_is_over answer.More h = absurd h
value_is_over (answer.Shape k) h = absurd h

value_is_no_more : (a : Answer) → HasValue a → a ≢ answer.More
value_is_no_more a h e = subst HasValue e h

value_is_no_fault : (a : Answer) (c : Class) → HasValue a → a ≢ answer.Fault c
value_is_no_fault a c h e = subst HasValue e h

fault_is_no_more : (a : Answer) (c : Class) → a ≡ answer.Fault c → a ≢ answer.More
fault_is_no_more a c e m = subst IsMore (sym m ∙ e) tt

one_row : (x : Value) (a : Answer) → IsValueOrFault a → answer_row x answer.More a ≡ call_row x a ∷ []
one_row x (answer.Value v) h = refl
one_row x (answer.Fault c) h = refl
one_row x answer.More h = absurd h
one_row x (answer.Shape k) h = absurd h

abbrev found_or_none : Bounded Rows → Rows
found_or_none (Some (Ok found)) = found
found_or_none o = []

abbrev IsNone : Bounded Rows → Type 0
IsNone None = Unit {0}
IsNone o = ⊥

abbrev IsFound : Bounded Rows → Type 0
IsFound (Some (Ok found)) = Unit {0}
IsFound o = ⊥

abbrev class_of : Class → Bounded Rows → Class
class_of c (Some (Err d)) = d
class_of c o = c

module _ (one : Query) (T : List Rows) where
  -- at this bound the query of one call has these answers, each a value or a fault
  abbrev Agrees : CallAnswer → ℕ → Start → Type 0
  Agrees answers k s = (sql one T s.1 k ≡ answers s.1) × IsValueOrFault (answers s.1)

  agreed_over : (answers : CallAnswer) (k : ℕ) (ss : List Start) → AllByRecursion (Agrees answers k) ss → AllByRecursion (λ (s : Start). IsValueOrFault (answers s.1)) ss
  agreed_over answers k [] h = tt
  agreed_over answers k (s ∷ ss) h = (h.0.1, agreed_over answers k ss h.1)

  same_answer_rows : (answers : CallAnswer) (k : ℕ) (ss : List Start) → AllByRecursion (Agrees answers k) ss → answer_rows one T k ss ≡ call_rows answers ss
  same_answer_rows answers k [] h = refl
  same_answer_rows answers k (s ∷ ss) h =
      ap (λ (a : Answer). answer_row (at s.0 0) answer.More a ++ answer_rows one T k ss) h.0.0
      ∙ (λ t. one_row (at s.0 0) (answers s.1) h.0.1 t ++ same_answer_rows answers k ss h.1 t)

  agreed_tells : (answers : CallAnswer) (k : ℕ) (ss : List Start) → AnswersOfEach one T k ss → AllByRecursion (Agrees answers k) ss → Tells answers ss (by_first (ended_before one T k ss))
  agreed_tells answers k ss each h = record {
    over = all_of (λ (s : Start). IsValueOrFault (answers s.1)) ss (agreed_over answers k ss h);
    same = λ test. each test ∙ ap (λ (all : Rows). length (filter test all)) (same_answer_rows answers k ss h);
    ascending = by_first_ascends (ended_before one T k ss);
  }

-- ---- the law

module _ (FitTables : List Rows → Type 0) (FitArgs : List Value → Type 0) (weight : ℕ) (function : FunctionAnswer) (q one : Query) (T : List Rows)
    (ss : List Start) (same : IsEquivalent FitTables FitArgs weight function one) (fit : FitTables T) (typed : AllByRecursion (λ (s : Start). FitArgs s.1) ss)
    (no_shape : (vs : List Value) (n k : ℕ) → function T vs n ≢ answer.Shape k)
    (faulty : (vs : List Value) (j : ℕ) (c : Class) → working_table one T vs j ≡ Err c → sql one T vs j ≡ answer.Fault c)
    (is_batch : (k : ℕ) → IsBatch q one T [] ss k) (case : (k : ℕ) → Case one T k ss) (each : (k : ℕ) → AnswersOfEach one T k ss) where
  abbrev within : ℕ → CallAnswer
  within n vs = function T vs n

  abbrev Typed : Start → Type 0
  Typed s = FitArgs s.1

  some_faults : (j k : ℕ) (c : Class) → j ≤ k → (ss : List Start) → FaultsFirst one T j c ss → SomeOf (λ (s : Start). sql one T s.1 k ≡ answer.Fault c) ss
  some_faults j k c le [] h = absurd h
  some_faults j k c le (s ∷ ss) (inl e) =
      let at_j = faulty s.1 j c e in
      inl (answer_stays one T s.1 j k le (fault_is_no_more (sql one T s.1 j) c at_j) ∙ at_j)
  some_faults j k c le (s ∷ ss) (inr h) = inr (some_faults j k c le ss h.1)

  some_more : (k : ℕ) (ss : List Start) → SomeIsMore one T k ss → SomeOf (λ (s : Start). sql one T s.1 k ≡ answer.More) ss
  some_more k [] h = absurd h
  some_more k (s ∷ ss) (inl e) = inl e
  some_more k (s ∷ ss) (inr h) = inr (some_more k ss h)

  none_more : (k : ℕ) (ss : List Start) → NoneIsMore one T k ss → AllByRecursion (λ (s : Start). sql one T s.1 k ≢ answer.More) ss
  none_more k [] h = tt
  none_more k (s ∷ ss) h = (h.0, none_more k ss h.1)

  abbrev bound : ℕ → ℕ
  bound n = (n + 1) * weight + 1

  -- a value that the function has
  value_agrees : (n : ℕ) (s : Start) → Typed s → HasValue (within n s.1) → Agrees one T (within n) (bound n) s
  value_agrees n s t v = (same.ends T s.1 n fit t (value_is_no_more (within n s.1) v), value_is_over (within n s.1) v)

  -- an answer that the query of one call has
  answer_agrees : (k : ℕ) (s : Start) → Typed s → sql one T s.1 k ≢ answer.More → Agrees one T (within k) k s
  answer_agrees k s t some =
      let e = same.only T s.1 k fit t some in
      (sym e, is_over (within k s.1) (λ m. some (sym e ∙ m)) (no_shape s.1 k))

  fault_is : (k : ℕ) (c : Class) (s : Start) → Typed s → sql one T s.1 k ≡ answer.Fault c → within k s.1 ≡ answer.Fault c
  fault_is k c s t e = same.only T s.1 k fit t (fault_is_no_more (sql one T s.1 k) c e) ∙ e

  more_is : (n : ℕ) (s : Start) → Typed s → sql one T s.1 (bound n) ≡ answer.More → within n s.1 ≡ answer.More
  more_is n s t e = by (within n s.1) refl
    where
      other : (a : Answer) → within n s.1 ≡ a → (IsMore a → ⊥) → within n s.1 ≡ answer.More
      other a is not_more = absurd (not_more (subst IsMore (sym e ∙ (same.ends T s.1 n fit t (λ m. not_more (subst IsMore (sym m ∙ is) tt)) ∙ is)) tt))

      by : (a : Answer) → within n s.1 ≡ a → within n s.1 ≡ answer.More
      by answer.More is = is
      by (answer.Value v) is = other (answer.Value v) is (λ x. x)
      by (answer.Fault c) is = other (answer.Fault c) is (λ x. x)
      by (answer.Shape k) is = other (answer.Shape k) is (λ x. x)

  values : (n : ℕ) → All (λ (s : Start). HasValue (within n s.1)) ss
      → (found : Rows) × (rows q T [] (bound n) ≡ Some (Ok found)) × Tells (within n) ss found
  values n all = by (case (bound n))
    where
      agree : AllByRecursion (Agrees one T (within n) (bound n)) ss
      agree = both Typed (λ (s : Start). HasValue (within n s.1)) (Agrees one T (within n) (bound n)) (value_agrees n) ss typed (each_of (λ (s : Start). HasValue (within n s.1)) ss all)

      values_are : AllByRecursion (λ (s : Start). HasValue (sql one T s.1 (bound n))) ss
      values_are =
          both Typed (λ (s : Start). HasValue (within n s.1)) (λ (s : Start). HasValue (sql one T s.1 (bound n)))
          (λ s t v. subst HasValue (sym (value_agrees n s t v).0) v) ss typed (each_of (λ (s : Start). HasValue (within n s.1)) ss all)

      by : Case one T (bound n) ss → (found : Rows) × (rows q T [] (bound n) ≡ Some (Ok found)) × Tells (within n) ss found
      by (fault j c le fine first) =
          absurd
          (none_of (λ (s : Start). HasValue (sql one T s.1 (bound n))) (λ (s : Start). sql one T s.1 (bound n) ≡ answer.Fault c)
          (λ s v e. value_is_no_fault (sql one T s.1 (bound n)) c v e) ss values_are (some_faults j (bound n) c le ss first))
      by (going fine some) =
          absurd
          (none_of (λ (s : Start). HasValue (sql one T s.1 (bound n))) (λ (s : Start). sql one T s.1 (bound n) ≡ answer.More)
          (λ s v e. value_is_no_more (sql one T s.1 (bound n)) v e) ss values_are (some_more (bound n) ss some))
      by (over fine none) = (
        by_first (ended_before one T (bound n) ss),
        (is_batch (bound n)).ends fine none,
        agreed_tells one T (within n) (bound n) ss (each (bound n)) agree,
      )

  list : (k : ℕ) (found : Rows) → rows q T [] k ≡ Some (Ok found) → Tells (within k) ss found
  list k found e = by (case k)
    where
      by : Case one T k ss → Tells (within k) ss found
      by (fault j c le fine first) = absurd (subst IsFound (sym e ∙ (is_batch k).faults j c le fine first) tt)
      by (going fine some) = absurd (subst IsFound (sym e ∙ (is_batch k).goes_on fine some) tt)
      by (over fine none) =
          subst (Tells (within k) ss) (ap found_or_none (sym ((is_batch k).ends fine none) ∙ e))
          (agreed_tells one T (within k) k ss (each k)
          (both Typed (λ (s : Start). sql one T s.1 k ≢ answer.More) (Agrees one T (within k) k) (answer_agrees k) ss typed (none_more k ss none)))

  faults : (k : ℕ) (c : Class) → rows q T [] k ≡ Some (Err c) → Any (λ (s : Start). within k s.1 ≡ answer.Fault c) ss
  faults k c e = by (case k)
    where
      by : Case one T k ss → Any (λ (s : Start). within k s.1 ≡ answer.Fault c) ss
      by (fault j d le fine first) =
          let same_class : d ≡ c = ap (class_of c) (sym ((is_batch k).faults j d le fine first) ∙ e) in
          any_of (λ (s : Start). within k s.1 ≡ answer.Fault c) ss
          (among Typed (λ (s : Start). sql one T s.1 k ≡ answer.Fault c) (λ (s : Start). within k s.1 ≡ answer.Fault c) (fault_is k c) ss typed
          (subst (λ x. SomeOf (λ (s : Start). sql one T s.1 k ≡ answer.Fault x) ss) same_class (some_faults j k d le ss first)))
      by (going fine some) = absurd (subst IsNone (sym ((is_batch k).goes_on fine some) ∙ e) tt)
      by (over fine none) = absurd (subst IsFound (sym ((is_batch k).ends fine none) ∙ e) tt)

  more : (n : ℕ) → rows q T [] (bound n) ≡ None → Any (λ (s : Start). within n s.1 ≡ answer.More) ss
  more n e = by (case (bound n))
    where
      by : Case one T (bound n) ss → Any (λ (s : Start). within n s.1 ≡ answer.More) ss
      by (fault j c le fine first) = absurd (subst IsNone (sym e ∙ (is_batch (bound n)).faults j c le fine first) tt)
      by (going fine some) =
          any_of (λ (s : Start). within n s.1 ≡ answer.More) ss
          (among Typed (λ (s : Start). sql one T s.1 (bound n) ≡ answer.More) (λ (s : Start). within n s.1 ≡ answer.More) (more_is n) ss typed
          (some_more (bound n) ss some))
      by (over fine none) = absurd (subst IsNone (sym e ∙ (is_batch (bound n)).ends fine none) tt)

  pub answers_as_calls : AnswersAsCalls q T ss weight (λ vs n. function T vs n)
  answers_as_calls = record { values = values; list = list; fault = faults; more = more }
