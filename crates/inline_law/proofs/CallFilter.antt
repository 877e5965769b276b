-- The subquery of a call, over any rows: the result of the first row that is one of the call at these arguments.
use Rattle.std.proofs.Common.{◌≡◌, refl, ap, ◌∙◌, ℕ, suc, ◌<◌, ◌^◌, Bool, true, false, ◌&&◌, if◌then◌else◌, pos, List, [], ◌∷◌, ◌++◌, map, filter, length, slice_index_or, Option, Some, Ok, decimal}
use Rattle.std.specs.Prelude.{take}
use Rattle.away_trees.specs.Algebra.{expr_of}
use Rattle.away_trees.specs.declared.queries.Expr.{Expr}
use Rattle.away_trees.specs.declared.queries.Expr.TheVariants as expr
use Rattle.away_trees.specs.declared.queries.Select.{Select}
use Rattle.away_trees.proofs.Equations as eq
use Rattle.away_values.specs.declared.operators.ChainOp.{ChainOp}
use Rattle.away_values.specs.declared.operators.ChainOp.TheVariants as chain
use Rattle.away_values.specs.declared.operators.CmpOp.TheVariants as cmp
use Rattle.away_values.specs.declared.operators.IsTest.TheVariants as test
use Rattle.away_values.specs.declared.values.Value.{Value}
use Rattle.away_values.specs.declared.values.Value.TheVariants as val
use Rattle.away_values.specs.Operators.{compare, conjunction, disjunction, is_false, is_null, is_true, negation, negation_if, passes}
use Rattle.away_values.specs.Results.{Or, and_then, mapped, each}
use Rattle.sql_meaning.specs.Context.{Rows, Frame, Context, at, column, inside}
use Rattle.sql_meaning.specs.Expressions.{values, link_answers, ExprMeaning}
use Rattle.sql_meaning.specs.Meaning.{meaning, value, rows_of_select, rows_of_item}
use Rattle.sql_meaning.specs.Parts.{pair, chained, only}
use Rattle.sql_meaning.specs.Selects.{product, keep, keep_if, kept, listed, ordered, cut}
use Rattle.sql_meaning.specs.Trees.{col, item, one}
use Rattle.sql_meaning.proofs.SelectRows.{extended}
use Rattle.std.proofs.lemmas.Fmt.{decimal_is_IsNumeral}
use Rattle.away_trees.specs.declared.queries.FromItem.{FromItem}
use Rattle.cte_law.proofs.Sequences.{alone}
use Rattle.inline_law.specs.Answers.{Every}
use Rattle.inline_law.specs.Written.{is_argument, are_arguments, is_call, result_place, table_as, value_of_call, value_select}
use Rattle.inline_law.proofs.Equal.{both_null, matches}

-- ---- the conjuncts

-- each expression has its value here
abbrev pub Have : Context → List Expr → List Value → Type 0
Have cx [] [] = Unit {0}
Have cx (e ∷ es) (v ∷ vs) = (value e cx ≡ Ok v) × Have cx es vs
Have cx _ _ = ⊥

abbrev and_value : Value → Value → Value
and_value a b = if is_false a then val.Bool false else conjunction a b

-- the conjunction behind a, of these values and the columns from a place on
abbrev joined : Value → ℕ → List Value → List Value → Value
joined a place row [] = a
joined a place row (v ∷ vs) = joined (and_value a (matches (at row place) v)) (suc place) row vs

abbrev pub all_match : ℕ → List Value → List Value → Bool
all_match place row [] = true
all_match place row (v ∷ vs) = is_true (matches (at row place) v) && all_match (suc place) row vs

-- a row of call n at these arguments that has ended
abbrev pub is_row_of : ℕ → List Value → List Value → Bool
is_row_of n vs row = is_true (negation (at row 0)) && (is_true (compare cmp.Eq (at row 2) (val.Int (pos n))) && all_match 3 row vs)

both_kinds : (a b : Value) → is_true (and_value a b) ≡ (is_true a && is_true b)
both_kinds (val.Bool false) b = refl
both_kinds (val.Bool true) val.Null = refl
both_kinds (val.Bool true) (val.Int n) = refl
both_kinds (val.Bool true) (val.Bool true) = refl
both_kinds (val.Bool true) (val.Bool false) = refl
both_kinds (val.Bool true) (val.Text t) = refl
both_kinds val.Null b = no (is_false b)
  where
    no : (x : Bool) → is_true (if x then val.Bool false else val.Null) ≡ false
    no true = refl
    no false = refl
both_kinds (val.Int n) b = no (is_false b)
  where
    no : (x : Bool) → is_true (if x then val.Bool false else val.Null) ≡ false
    no true = refl
    no false = refl
both_kinds (val.Text t) b = no (is_false b)
  where
    no : (x : Bool) → is_true (if x then val.Bool false else val.Null) ≡ false
    no true = refl
    no false = refl

grouped : (a b c : Bool) → ((a && b) && c) ≡ (a && (b && c))
grouped true b c = refl
grouped false b c = refl

true_joined : (a : Value) (place : ℕ) (row vs : List Value) → is_true (joined a place row vs) ≡ (is_true a && all_match place row vs)
true_joined a place row [] = and_true (is_true a)
  where
    and_true : (b : Bool) → b ≡ (b && true)
    and_true true = refl
    and_true false = refl
true_joined a place row (v ∷ vs) =
    true_joined (and_value a (matches (at row place) v)) (suc place) row vs
    ∙ (ap (λ b. b && all_match (suc place) row vs) (both_kinds a (matches (at row place) v))
    ∙ grouped (is_true a) (is_true (matches (at row place) v)) (all_match (suc place) row vs))

abbrev given : Value → Or Value
given v = Ok v

pushed : (x : Bool) (a b : Value) → (if x then given a else given b) ≡ given (if x then a else b)
pushed true a b = refl
pushed false a b = refl

-- AND and OR of two values
pair_is : (a b : Value) → pair chain.And a (Ok b) ≡ Ok (and_value a b)
pair_is a b = pushed (is_false a) (val.Bool false) (conjunction a b)

or_is : (a b : Value) → pair chain.Or a (Ok b) ≡ Ok (if is_true a then val.Bool true else disjunction a b)
or_is a b = pushed (is_true a) (val.Bool true) (disjunction a b)

module _ (cx : Context) where
  abbrev x_at : ℕ → Value
  x_at place = column cx.frames (record { level = 0; item = 0; column = place })

  compared_value : (place : ℕ) (e : Expr) (v : Value) → value e cx ≡ Ok v
      → value (expr.Compare cmp.Eq (col 0 0 place) e) cx ≡ Ok (compare cmp.Eq (x_at place) v)
  compared_value place e v h = ap (λ m. m.value cx) (eq.of_compare meaning cmp.Eq (col 0 0 place) e) ∙ ap (mapped (compare cmp.Eq (x_at place))) h

  null_value : (e : Expr) (v : Value) → value e cx ≡ Ok v → value (expr.Is e test.Null false) cx ≡ Ok (val.Bool (is_null v))
  null_value e v h = ap (λ m. m.value cx) (eq.of_is meaning e test.Null false) ∙ ap (mapped (λ v. negation_if false (val.Bool (passes test.Null v)))) h

  -- a chain of one link
  one_link : (op : ChainOp) (e f : Expr) (a b : Value) → value e cx ≡ Ok a → value f cx ≡ Ok b
      → value (expr.Chain e ((op, f) ∷ [])) cx ≡ and_then (pair op a (Ok b)) (λ c. Ok c)
  one_link op e f a b h k =
      ap (λ m. m.value cx) (eq.of_chain meaning e ((op, f) ∷ []))
      ∙ (λ i. and_then (h i) (chained ((op, k i) ∷ [])))

  argument_value : (place : ℕ) (e : Expr) (v : Value) → value e cx ≡ Ok v → value (is_argument place e) cx ≡ Ok (matches (x_at place) v)
  argument_value place e v h =
      let x : Value = x_at place in
      let nulls = one_link chain.And (expr.Is (col 0 0 place) test.Null false) (expr.Is e test.Null false) (val.Bool (is_null x)) (val.Bool (is_null v))
      (null_value (col 0 0 place) x refl) (null_value e v h) in
      one_link chain.Or (expr.Compare cmp.Eq (col 0 0 place) e) (expr.Chain (expr.Is (col 0 0 place) test.Null false) ((chain.And, expr.Is e test.Null false) ∷ []))
      (compare cmp.Eq x v) (both_null x v)
      (compared_value place e v h)
      (nulls ∙ ap (λ o. and_then o (λ c. Ok c)) (pair_is (val.Bool (is_null x)) (val.Bool (is_null v))))
      ∙ ap (λ o. and_then o (λ c. Ok c)) (or_is (compare cmp.Eq x v) (both_null x v))

module _ (outer : Context) (row : List Value) where
  abbrev there : Context
  there = inside (row ∷ []) outer

  abbrev links_of : List (ChainOp × Expr) → List (ChainOp × Or Value)
  links_of links = link_answers there (map (λ l. eq.link_of meaning l) links)

  arguments_value : (a : Value) (place : ℕ) (es : List Expr) (vs : List Value) → Have there es vs
      → chained (links_of (are_arguments place es)) a ≡ Ok (joined a place row vs)
  arguments_value a place [] [] h = refl
  arguments_value a place (e ∷ es) (v ∷ vs) h =
      ap (λ o. and_then (pair chain.And a o) (chained (links_of (are_arguments (suc place) es)))) (argument_value there place e v h.0)
      ∙ (ap (λ o. and_then o (chained (links_of (are_arguments (suc place) es)))) (pair_is a (matches (at row place) v))
      ∙ arguments_value (and_value a (matches (at row place) v)) (suc place) es vs h.1)
  arguments_value a place [] (v ∷ vs) h = absurd h
  arguments_value a place (e ∷ es) [] h = absurd h

  not_value : value (expr.Not (col 0 0 0)) there ≡ Ok (negation (at row 0))
  not_value = ap (λ m. m.value there) (eq.of_not meaning (col 0 0 0))

  abbrev test_value : ℕ → List Value → Value
  test_value n vs = joined (and_value (negation (at row 0)) (compare cmp.Eq (at row 2) (val.Int (pos n)))) 3 row vs

  filter_value : (n : ℕ) (es : List Expr) (vs : List Value) → Have there es vs → value (is_call n es) there ≡ Ok (test_value n vs)
  filter_value n es vs h =
      let numbered : Expr = expr.Compare cmp.Eq (col 0 0 2) (expr.Int (pos n)) in
      ap (λ m. m.value there) (eq.of_chain meaning (expr.Not (col 0 0 0)) ((chain.And, numbered) ∷ are_arguments 3 es))
      ∙ (ap (λ o. and_then o (chained (links_of ((chain.And, numbered) ∷ are_arguments 3 es)))) not_value
      ∙ (ap (λ o. and_then (pair chain.And (negation (at row 0)) o) (chained (links_of (are_arguments 3 es)))) (compared_value there 2 (expr.Int (pos n)) (val.Int (pos n)) refl)
      ∙ (ap (λ o. and_then o (chained (links_of (are_arguments 3 es)))) (pair_is (negation (at row 0)) (compare cmp.Eq (at row 2) (val.Int (pos n))))
      ∙ arguments_value (and_value (negation (at row 0)) (compare cmp.Eq (at row 2) (val.Int (pos n)))) 3 es vs h)))

  test_is : (n : ℕ) (vs : List Value) → is_true (test_value n vs) ≡ is_row_of n vs row
  test_is n vs =
      true_joined (and_value (negation (at row 0)) (compare cmp.Eq (at row 2) (val.Int (pos n)))) 3 row vs
      ∙ (ap (λ b. b && all_match 3 row vs) (both_kinds (negation (at row 0)) (compare cmp.Eq (at row 2) (val.Int (pos n))))
      ∙ grouped (is_true (negation (at row 0))) (is_true (compare cmp.Eq (at row 2) (val.Int (pos n)))) (all_match 3 row vs))

-- ---- the rows of the table

abbrev alone_in : List Value → Frame
alone_in row = row ∷ []

-- at each row of the table the arguments have these values
abbrev pub HaveAtRows : Context → List Expr → List Value → Rows → Type 0
HaveAtRows cx es vs = Every (λ (row : List Value). Have (inside (row ∷ []) cx) es vs)

pub have_at_rows : (cx : Context) (es : List Expr) (vs : List Value) → ((row : List Value) → Have (inside (row ∷ []) cx) es vs) → (rows : Rows)
    → HaveAtRows cx es vs rows
have_at_rows cx es vs h [] = tt
have_at_rows cx es vs h (row ∷ rows) = (h row, have_at_rows cx es vs h rows)

module _ (cx : Context) (n : ℕ) (es : List Expr) (vs : List Value) where
  keep_is : (row : List Value) (rows : Rows) (b : Bool) → keep_if (alone_in row) b (map alone_in rows) ≡ map alone_in (if b then row ∷ rows else rows)
  keep_is row rows true = refl
  keep_is row rows false = refl

  rows_kept : (rows : Rows) → HaveAtRows cx es vs rows
      → keep (λ frame. value (is_call n es) (inside frame cx)) (map alone_in rows) ≡ Ok (map alone_in (filter (is_row_of n vs) rows))
  rows_kept [] have = refl
  rows_kept (row ∷ rows) have =
      (λ i. and_then (filter_value cx row n es vs have.0 i) (λ v. mapped (keep_if (alone_in row) (is_true v)) (rows_kept rows have.1 i)))
      ∙ (ap (λ b. Ok (keep_if (alone_in row) b (map alone_in (filter (is_row_of n vs) rows)))) (test_is cx row n vs)
      ∙ ap Ok (keep_is row (filter (is_row_of n vs) rows) (is_row_of n vs row)))

  module _ (place : ℕ) where
    listed_rows : (rows : Rows)
        → each (λ frame. values (inside frame cx) (expr_of meaning (col 0 0 place) ∷ [])) (map alone_in rows) ≡ Ok (map (λ (row : List Value). at row place ∷ []) rows)
    listed_rows [] = refl
    listed_rows (row ∷ rows) = (λ i. mapped (λ ys. (at row place ∷ []) ∷ ys) (listed_rows rows i))

-- the first one's result
abbrev pub first_result : ℕ → Rows → Value
first_result place [] = val.Null
first_result place (row ∷ rows) = at row place

only_first : (place : ℕ) (rows : Rows) → only (take 1 (map (λ (row : List Value). at row place ∷ []) rows) ++ []) ≡ Ok (first_result place rows)
only_first place [] = refl
only_first place (row ∷ rows) = refl

-- the item has the rows of the table at this place
abbrev pub IsTable : FromItem → ℕ → Type 0
IsTable from table = (cx : Context) → rows_of_item from cx [] ≡ Ok (slice_index_or cx.tables table [])

-- the recursive table whatever its names
pub table_is : (name : List ℕ) (names : List (List ℕ)) (place : ℕ) → place < 2 ^ 64 → IsTable (table_as name names (decimal place)) place
table_is name names place h cx = ap (λ n. Ok (slice_index_or cx.tables n [])) (decimal_is_IsNumeral place h).1

module _ (cx : Context) (from : FromItem) (table columns n : ℕ) (from_rows : IsTable from table) (es : List Expr) (vs : List Value)
    (have : HaveAtRows cx es vs (slice_index_or cx.tables table [])) where
  abbrev rows : Rows
  rows = slice_index_or cx.tables table []

  abbrev place : ℕ
  place = result_place (length es) columns

  abbrev select : Select
  select = value_select from columns n es

  from_is : product cx (rows_of_item from ∷ []) ([] ∷ []) ≡ Ok (map alone_in rows)
  from_is =
      ap (λ x. and_then x (λ y. Ok y))
      (extended cx (rows_of_item from) [] (Ok rows) (from_rows cx) ∙ alone (Ok (map alone_in rows)))

  abbrev kept_ones : Rows
  kept_ones = filter (is_row_of n vs) rows

  abbrev the_list : List ExprMeaning
  the_list = expr_of meaning (col 0 0 place) ∷ []

  abbrev limit : Option ExprMeaning
  limit = Some (expr_of meaning (expr.Int (pos 1)))

  select_rows : rows_of_select select cx ≡ Ok (take 1 (map (λ (row : List Value). at row place ∷ []) kept_ones))
  select_rows =
      ap (λ m. m cx) (eq.of_select meaning (item (col 0 0 place) ∷ []) (from ∷ []) (Some (is_call n es)) [] (Some (expr.Int (pos 1))))
      ∙ (ap (λ x. and_then x (λ frames. and_then (kept cx (Some (expr_of meaning (is_call n es))) frames) (λ rows. and_then (listed cx the_list [] rows) (cut cx limit)))) from_is
      ∙ (ap (λ x. and_then x (λ rows. and_then (listed cx the_list [] rows) (cut cx limit))) (rows_kept cx n es vs rows have)
      ∙ ap (λ x. and_then (and_then x (ordered cx [] (map alone_in kept_ones))) (cut cx limit)) (listed_rows cx n es vs place kept_ones)))

  pub call_value : value (value_of_call from columns n es) cx ≡ Ok (first_result place kept_ones)
  call_value =
      ap (λ m. m.value cx) (eq.of_scalar meaning (one select))
      ∙ (ap (λ m. and_then (m.rows cx) only) (eq.of_query meaning (select ∷ []))
      ∙ (ap (λ x. and_then (and_then x (λ ys. Ok (ys ++ []))) only) select_rows
      ∙ only_first place kept_ones))

  pub call_single : (expr_of meaning (value_of_call from columns n es)).aggregates ≡ false
  call_single = ap (λ m. m.aggregates) (eq.of_scalar meaning (one select))
