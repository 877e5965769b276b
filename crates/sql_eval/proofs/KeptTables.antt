-- A select whose FROM is a table alone, of which nothing else in it is read, has the rows that it has over those rows of the table that its condition
-- keeps.
use Rattle.std.proofs.Common.{◌≡◌, refl, sym, ◌∙◌, ap, subst, ℕ, Bool, true, false, nat_lt, List, [], ◌∷◌, ◌++◌, length, map, slice_index_or, Option, Some, None, Ok, Err}
use Rattle.std.proofs.Math.ListN.{get_or-append}
use Rattle.std.proofs.lemmas.Bool.{ltb-true, eqb-true}
use Rattle.std.proofs.lemmas.List.{get_or_at}
use Rattle.away_values.specs.declared.values.Value.{Value}
use Rattle.away_trees.specs.declared.queries.Expr.{Expr}
use Rattle.away_trees.specs.declared.queries.FromItem.{FromItem}
use Rattle.away_trees.specs.declared.queries.Item.{Item}
use Rattle.away_trees.specs.declared.queries.Key.{Key}
use Rattle.away_trees.specs.declared.queries.Query.{Query}
use Rattle.away_trees.specs.declared.queries.Select.{Select}
use Rattle.away_trees.specs.declared.queries.Source.{Source}
use Rattle.away_trees.specs.declared.queries.Expr.TheBlock as b
use Rattle.away_trees.specs.declared.queries.Expr.TheViews.{out-FromItem, out-Item, out-Key, out-Query, out-Select}
use Rattle.away_values.specs.Results.{Or, and_then, mapped}
use Rattle.away_values.specs.Operators.{is_true}
use Rattle.sql_meaning.specs.Context.{Rows, Frame, Context, outermost}
use Rattle.sql_meaning.specs.Equations.{items, keys, optional, rows_of_source}
use Rattle.sql_meaning.specs.Expressions.{FromMeaning}
use Rattle.sql_meaning.specs.Gives.{joined_of, query_rows}
use Rattle.sql_meaning.specs.Selected.{select_rows, item_rows, beside, beside_of, extended_of, product_of, value_at, keep_of, filtered_of, listed_of, limited_of, selected_of}
use Rattle.sql_meaning.specs.Selects.{keep, keep_if}
use Rattle.sql_meaning.specs.Working.{with_table}
use Rattle.sql_meaning.proofs.Lists.{Zipped, ZippedOption}
use Rattle.sql_meaning.proofs.SelectRules as rule
use Rattle.sql_meaning.proofs.Same as same
use Rattle.sql_meaning.proofs.Uses.{and_first, and_second}
use Rattle.sql_eval.specs.Places.{expr_within, all_items, all_keys, optional_within}
use Rattle.sql_eval.specs.Kept.{source_stands, stands_at, stands_alone, is_suited, row_test}
use Rattle.sql_eval.proofs.SameTables.{around, Same, SameKey, expr_same}

-- ---- a table at its place

agrees : (T : List Rows) (X : Rows) (k : ℕ) → nat_lt k (length T) ≡ true → slice_index_or (T ++ X ∷ []) k [] ≡ slice_index_or T k []
agrees T X k h = get_or-append T (X ∷ []) [] k (ltb-true k (length T) h)

stands : (T : List Rows) (X : Rows) → slice_index_or (T ++ X ∷ []) (length T) [] ≡ X
stands T X = get_or_at T X [] [] (length T) refl

-- its rows, as rows of FROM
abbrev single : List Value → Frame
single row = row ∷ []

abbrev singles : Rows → List Frame
singles X = map single X ++ []

source_rows : (n : ℕ) (columns : List (List ℕ)) (s : Source) (cx : Context) → source_stands n columns s ≡ true → rows_of_source s columns cx [] ≡ Ok (slice_index_or cx.tables n [])
source_rows n columns (b.Table name) cx h = ap (λ k. Ok (slice_index_or cx.tables k [])) (eqb-true _ n h)
source_rows n columns (b.Sub' p q lateral) cx h = absurd (never h)
  where
    never : false ≡ true → ⊥
    never e = cc

from_rows : (n : ℕ) (from : List FromItem) (cx : Context) (X : Rows) → stands_alone n from ≡ true → slice_index_or cx.tables n [] ≡ X → product_of cx from ([] ∷ []) ≡ Ok (singles X)
unfolding product_of extended_of joined_of beside_of beside item_rows stands_at
from_rows n [] cx X h k = absurd (never h)
  where
    never : false ≡ true → ⊥
    never e = cc
from_rows n (f ∷ g ∷ more) cx X h k = absurd (never h)
  where
    never : false ≡ true → ⊥
    never e = cc
from_rows n (f ∷ []) cx X h k =
    ap (λ o. and_then (and_then (mapped (map single) o) (λ ys. mapped (λ zs. ys ++ zs) (Ok []))) (λ frames. Ok frames))
    (source_rows n (out-FromItem f).columns (out-FromItem f).source cx h ∙ ap (λ rows. Ok rows) k)

-- ---- what follows FROM, over two lists of tables

module _ (T U : List Rows) (args : List Value) (n : ℕ) (agree : (k : ℕ) → nat_lt k n ≡ true → slice_index_or U k [] ≡ slice_index_or T k []) where
  items_same : (list : List Item) → all_items n list ≡ true → Zipped (Same T U args n 1) (items list) (items list)
  unfolding all_items expr_within
  items_same [] h = tt
  items_same (x ∷ xs) h = (expr_same T U args n agree (out-Item x).expr (and_first (expr_within n (out-Item x).expr) _ h) 1, items_same xs (and_second (expr_within n (out-Item x).expr) _ h))

  keys_same : (list : List Key) → all_keys n list ≡ true → Zipped (SameKey T U args n 1) (keys list) (keys list)
  unfolding all_keys expr_within
  keys_same [] h = tt
  keys_same (x ∷ xs) h = ((refl, (expr_same T U args n agree (out-Key x).expr (and_first (expr_within n (out-Key x).expr) _ h) 1).1), keys_same xs (and_second (expr_within n (out-Key x).expr) _ h))

  optional_same : (o : Option Expr) → optional_within n o ≡ true → ZippedOption (Same T U args n 1) (optional o) (optional o)
  unfolding optional_within
  optional_same None h = tt
  optional_same (Some e) h = expr_same T U args n agree e h 1

  -- an item that has these rows everywhere
  abbrev always : Rows → FromMeaning
  always X cx frame = Ok X

  selected_same : (s : Select) (X : Rows) → all_items n (out-Select s).list ≡ true → optional_within n (out-Select s).filter ≡ true → all_keys n (out-Select s).order ≡ true → optional_within n (out-Select s).limit ≡ true → selected_of (outermost U args) s (singles X) ≡ selected_of (outermost T args) s (singles X)
  unfolding selected_of filtered_of listed_of limited_of
  selected_same s X list filter order limit =
      same.select_same (around T args) (around U args) 0 _ _ (always X ∷ []) (always X ∷ []) _ _ _ _ _ _ (items_same (out-Select s).list list) ((λ frame l g r. refl), tt) (optional_same (out-Select s).filter filter) (keys_same (out-Select s).order order) (optional_same (out-Select s).limit limit) [] [] (record { size = refl; alone = λ z. refl })

-- ---- what a condition keeps

one_kept : (x : List Value) (c : Bool) (rest : Or (List Frame)) (K : Or Rows) → rest ≡ mapped (map single) K → mapped (keep_if (single x) c) rest ≡ mapped (map single) (mapped (keep_if x c) K)
one_kept x true rest (Ok ks) h = ap (mapped (keep_if (single x) true)) h
one_kept x true rest (Err c) h = ap (mapped (keep_if (single x) true)) h
one_kept x false rest (Ok ks) h = ap (mapped (keep_if (single x) false)) h
one_kept x false rest (Err c) h = ap (mapped (keep_if (single x) false)) h

one_tested : (x : List Value) (m : Or Value) (rest : Or (List Frame)) (K : Or Rows) → rest ≡ mapped (map single) K → and_then m (λ v. mapped (keep_if (single x) (is_true v)) rest) ≡ mapped (map single) (and_then m (λ v. mapped (keep_if x (is_true v)) K))
one_tested x (Err c) rest K h = refl
one_tested x (Ok v) rest K h = one_kept x (is_true v) rest K h

keep_singles : (test : Frame → Or Value) (X : Rows) → keep test (singles X) ≡ mapped (map single) (keep (λ row. test (single row)) X)
keep_singles test [] = refl
keep_singles test (x ∷ xs) = one_tested x (test (single x)) (keep test (singles xs)) (keep (λ row. test (single row)) xs) (keep_singles test xs)

abbrev yields : {A : Type 0} → List A → Or (List A)
yields l = Ok l

-- rows that were kept are kept again
keep_again : {A : Type 0} (test : A → Or Value) (xs ys : List A) → keep test xs ≡ Ok ys → keep test ys ≡ Ok ys
keep_again test [] [] h = refl
keep_again test [] (y ∷ ys) h = cc
keep_again {A} test (x ∷ xs) ys h = by (λ zs q. keep_again test xs zs q) (test x) refl (keep test xs) refl h
  where
    same_one : (v : Value) (zs : List A) → test x ≡ Ok v → keep test zs ≡ Ok zs → (c : Bool) → is_true v ≡ c → yields (keep_if x c zs) ≡ Ok ys → keep test ys ≡ Ok ys
    same_one v zs p q true t h =
        let now : x ∷ zs ≡ ys = cc in
        subst (λ l. keep test l ≡ Ok l) now
        (ap (λ m. and_then m (λ v. mapped (keep_if x (is_true v)) (keep test zs))) p ∙ ((λ i. mapped (keep_if x (t i)) (q i))))
    same_one v zs p q false t h = let now : zs ≡ ys = cc in subst (λ l. keep test l ≡ Ok l) now q

    by : ((zs : List A) → keep test xs ≡ Ok zs → keep test zs ≡ Ok zs) → (m : Or Value) → test x ≡ m → (rest : Or (List A)) → keep test xs ≡ rest → and_then m (λ v. mapped (keep_if x (is_true v)) rest) ≡ Ok ys → keep test ys ≡ Ok ys
    by again (Err c) p rest q h = cc
    by again (Ok v) p (Err c) q h = cc
    by again (Ok v) p (Ok zs) q h = same_one v zs p (again zs q) (is_true v) refl h

-- ---- a select over its table

-- what follows the condition
unfoldable after_filter : Context → Select → Or Rows → Or Rows
after_filter cx s kept = and_then (mapped (map single) kept) (λ some. and_then (listed_of cx s some) (limited_of cx (out-Select s).limit))

filtered : (cx : Context) (e : Expr) (X : Rows) → filtered_of cx (Some e) (singles X) ≡ mapped (map single) (keep_of (λ row. value_at cx e (single row)) X)
unfolding filtered_of keep_of value_at
filtered cx e X = keep_singles (value_at cx e) X

over_table : (T : List Rows) (args : List Value) (s : Select) (e : Expr) (X : Rows) → is_suited (length T) s ≡ true → (out-Select s).filter ≡ Some e → select_rows (outermost (with_table T X) args) s ≡ after_filter (outermost T args) s (keep_of (row_test e T args) X)
unfolding is_suited after_filter row_test
over_table T args s e X h filter =
    let n = length T in
    let alone = and_first (stands_alone n (out-Select s).from) _ h in
    let h₁ = and_second (stands_alone n (out-Select s).from) _ h in
    let h₂ = and_second (all_items n (out-Select s).list) _ h₁ in
    let h₃ = and_second (optional_within n (out-Select s).filter) _ h₂ in
    rule.select_is (outermost (with_table T X) args) s
    ∙ ap (λ m. and_then m (selected_of (outermost (with_table T X) args) s)) (from_rows n (out-Select s).from (outermost (with_table T X) args) X alone (stands T X))
    ∙ selected_same T (with_table T X) args n (agrees T X) s X (and_first (all_items n (out-Select s).list) _ h₁) (and_first (optional_within n (out-Select s).filter) _ h₂) (and_first (all_keys n (out-Select s).order) _ h₃) (and_second (all_keys n (out-Select s).order) _ h₃)
    ∙ rule.selected_is (outermost T args) s (singles X)
    ∙ ap (λ m. and_then m (λ some. and_then (listed_of (outermost T args) s some) (limited_of (outermost T args) (out-Select s).limit))) (ap (λ f. filtered_of (outermost T args) f (singles X)) filter ∙ filtered (outermost T args) e X)

-- the rows over the table are those over what is kept of it, or the class of the condition
kept_is_enough : (T : List Rows) (args : List Value) (s : Select) (e : Expr) (X : Rows) → is_suited (length T) s ≡ true → (out-Select s).filter ≡ Some e → select_rows (outermost (with_table T X) args) s ≡ and_then (keep_of (row_test e T args) X) (λ kept. select_rows (outermost (with_table T kept) args) s)
unfolding keep_of after_filter
kept_is_enough T args s e X h filter = over_table T args s e X h filter ∙ by (keep (row_test e T args) X) refl
  where
    by : (m : Or Rows) → keep (row_test e T args) X ≡ m → after_filter (outermost T args) s m ≡ and_then m (λ kept. select_rows (outermost (with_table T kept) args) s)
    by (Err c) p = refl
    by (Ok kept) p = sym (over_table T args s e kept h filter ∙ ap (after_filter (outermost T args) s) (keep_again (row_test e T args) X kept p))

pub query_over : (T : List Rows) (args : List Value) (q : Query) (s : Select) (e : Expr) (X : Rows) → (out-Query q).selects ≡ s ∷ [] → is_suited (length T) s ≡ true → (out-Select s).filter ≡ Some e → query_rows (outermost (with_table T X) args) q ≡ and_then (keep_of (row_test e T args) X) (λ kept. query_rows (outermost (with_table T kept) args) q)
unfolding joined_of
query_over T args q s e X only h filter =
    rows_are X ∙ ap one_joined (kept_is_enough T args s e X h filter) ∙ by (keep_of (row_test e T args) X)
  where
    one_joined : Or Rows → Or Rows
    one_joined m = and_then m (λ ys. mapped (λ zs. ys ++ zs) (Ok []))

    rows_are : (Y : Rows) → query_rows (outermost (with_table T Y) args) q ≡ one_joined (select_rows (outermost (with_table T Y) args) s)
    rows_are Y = rule.query_is (outermost (with_table T Y) args) q ∙ ap (joined_of (select_rows (outermost (with_table T Y) args))) only

    by : (m : Or Rows) → one_joined (and_then m (λ kept. select_rows (outermost (with_table T kept) args) s)) ≡ and_then m (λ kept. query_rows (outermost (with_table T kept) args) q)
    by (Err c) = refl
    by (Ok kept) = sym (rows_are kept)
