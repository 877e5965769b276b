-- The rows that are kept of working tables, table by table.
use Rattle.std.proofs.Common.{◌≡◌, refl, sym, ◌∙◌, ap, subst, ℕ, zero, suc, ◌<◌, ◌-◌, true, false, List, [], ◌∷◌, ◌++◌, length, Option, Some, None, option_map, Result, Ok, Err, append_assoc}
use Rattle.std.proofs.lemmas.List.{append-nil, length-map}
use Rattle.away_values.specs.declared.values.Class.{Class}
use Rattle.away_values.specs.declared.values.Table.{Table}
use Rattle.away_values.specs.declared.values.Value.{Value}
use Rattle.away_values.specs.declared.errors.OpError.{OpError}
use Rattle.away_values.specs.declared.errors.OpError.TheVariants as error
use Rattle.away_trees.specs.declared.queries.Expr.{Expr}
use Rattle.away_trees.specs.declared.queries.Query.{Query}
use Rattle.away_trees.specs.declared.queries.Recursive.{Recursive}
use Rattle.away_trees.specs.declared.queries.Select.{Select}
use Rattle.away_trees.specs.declared.queries.Expr.TheViews.{out-Query, out-Recursive, out-Select}
use Rattle.away_values.specs.Results.{Or, and_then, mapped}
use Rattle.away_values.specs.Operators.{is_true}
use Rattle.lateral_rows.specs.RowParts.{kept_by}
use Rattle.lateral_rows.proofs.RowLaws.{keep_is}
use Rattle.sql_meaning.specs.AtBound.{turned, table_of, worked_of, rows_of_tables, over_found, over_recursive}
use Rattle.sql_meaning.specs.Context.{Rows, outermost}
use Rattle.sql_meaning.specs.Equations.{recursive_part}
use Rattle.sql_meaning.specs.Gives.{Gives, each_of, joined_of, query_rows}
use Rattle.sql_meaning.specs.Selected.{select_rows, beside, keep_of, value_at}
use Rattle.sql_meaning.specs.Selects.{keep, keep_if}
use Rattle.sql_meaning.specs.Working.{next_rows, with_table, worked}
use Rattle.sql_meaning.proofs.BoundRules as bound
use Rattle.sql_meaning.proofs.GivesRules.{gives_rules}
use Rattle.sql_meaning.proofs.Lists.{each_map}
use Rattle.sql_meaning.proofs.SelectRules.{value_at_is}
use Rattle.sql_meaning.proofs.WalkRules.{next_item, none_left, after_none, each_end, each_more}
use Rattle.sql_eval.specs.Kept.{IsFilter, is_suited, kept_found, kept_further, kept_table, over_kept, row_test}
use Rattle.sql_eval.proofs.KeptTables.{query_over}

-- ---- where it is enough to hold them

pub is_filter : (q : Query) (n : ℕ) (s : Select) (e : Expr) → (out-Query q).selects ≡ s ∷ [] → is_suited n s ≡ true → (out-Select s).filter ≡ Some e → IsFilter q n e
is_filter q n s e only suited filter = record { select = s; only = only; suited = suited; filter = filter }

found_over : (T : List Rows) (args : List Value) (q : Query) (e : Expr) (o : Option Rows) → IsFilter q (length T) e → over_found q T args o ≡ and_then (kept_found e T args o) (over_found q T args)
unfolding over_found kept_found
found_over T args q e None h = refl
found_over T args q e (Some table) h =
    ap (mapped (λ rows. Some rows)) (query_over T args q h.select e table h.only h.suited h.filter) ∙ by (keep_of (row_test e T args) table)
  where
    by : (m : Or Rows) → mapped (λ rows. Some rows) (and_then m (λ kept. query_rows (outermost (with_table T kept) args) q)) ≡ and_then (mapped (λ rows. Some rows) m) (over_found q T args)
    by (Err c) = refl
    by (Ok kept) = refl

kept_is_all : (q : Query) (r : Recursive) (tables : List Table) (args : List Value) (k : ℕ) (e : Expr) → IsFilter q (length tables) e → over_recursive q r (rows_of_tables tables) args k ≡ and_then (kept_table e r (rows_of_tables tables) args k) (over_found q (rows_of_tables tables) args)
unfolding kept_table
kept_is_all q r tables args k e h =
    let T = rows_of_tables tables in
    let here = subst (λ n. IsFilter q n e) (sym (length-map tables (λ (t : Table). t.rows))) h in
    bound.over_is q r T args k ∙ by T (λ o. found_over T args q e o here) (table_of r T args k)
  where
    by : (T : List Rows) → ((o : Option Rows) → over_found q T args o ≡ and_then (kept_found e T args o) (over_found q T args)) → (m : Or (Option Rows)) → and_then m (over_found q T args) ≡ and_then (and_then m (kept_found e T args)) (over_found q T args)
    by T go (Err c) = refl
    by T go (Ok o) = go o

pub over_kept_is : (q : Query) (e : Expr) (r : Recursive) (T : List Rows) (args : List Value) (k : ℕ) → over_kept q e r T args k ≡ and_then (kept_table e r T args k) (over_found q T args)
unfolding over_kept
over_kept_is q e r T args k = refl

pub kept_gives : (q : Query) (r : Recursive) (tables : List Table) (args : List Value) (k : ℕ) (e : Expr) (x : Result (Option Rows) OpError) → IsFilter q (length tables) e → Gives (over_kept q e r (rows_of_tables tables) args k) x → Gives (over_recursive q r (rows_of_tables tables) args k) x
unfolding over_kept
kept_gives q r tables args k e x h g = subst (λ m. Gives m x) (sym (kept_is_all q r tables args k e h)) g

-- ---- what the condition says

pub flags_are : (e : Expr) (T : List Rows) (args : List Value) (rows : Rows) → each_of (row_test e T args) rows ≡ each_of (value_at (outermost T args) e) (beside [] rows)
unfolding each_of row_test beside
flags_are e T args rows = sym (each_map (value_at (outermost T args) e) (λ row. row ∷ []) rows)

pub further_held : (e : Expr) (T : List Rows) (args : List Value) (c : Class) (now : Rows) → kept_further e T args (Err c) now ≡ Err c
unfolding kept_further
further_held e T args c now = refl

pub further_flags : (e : Expr) (T : List Rows) (args : List Value) (kept now : Rows) (flags : List Value) → Gives (each_of (row_test e T args) now) (Ok flags) → kept_further e T args (Ok kept) now ≡ Ok (kept ++ kept_by now flags)
unfolding Gives each_of kept_further keep_of
further_flags e T args kept now flags h = ap (mapped (λ more. kept ++ more)) (keep_is (row_test e T args) now ∙ ap (mapped (kept_by now)) h)

pub further_class : (e : Expr) (T : List Rows) (args : List Value) (kept now : Rows) (c : Class) → Gives (each_of (row_test e T args) now) (Err (error.Class c)) → kept_further e T args (Ok kept) now ≡ Err c
unfolding Gives each_of kept_further keep_of
further_class e T args kept now c h = ap (mapped (λ more. kept ++ more)) (keep_is (row_test e T args) now ∙ ap (mapped (kept_by now)) h)

-- ---- table by table

-- what is kept of the tables that are left, behind what is kept so far
unfoldable pub left_found : Expr → List Rows → List Value → Or Rows → Option Rows → Or (Option Rows)
left_found e T args so_far None = Ok None
left_found e T args so_far (Some rest) = mapped (λ rows. Some rows) (kept_further e T args so_far rest)

-- the same from this working table on
unfoldable pub keeping : Expr → Recursive → List Rows → List Value → ℕ → Or Rows → Rows → Or (Option Rows)
keeping e r T args k so_far now = and_then (worked_of r T args k [] now) (left_found e T args so_far)

then_then : {A B C : Type 0} (m : Or A) (f : A → Or B) (g : B → Or C) → and_then (and_then m f) g ≡ and_then m (λ a. and_then (f a) g)
then_then (Ok a) f g = refl
then_then (Err c) f g = refl

then_each : {A B : Type 0} (m : Or A) (f g : A → Or B) → ((a : A) → f a ≡ g a) → and_then m f ≡ and_then m g
then_each (Ok a) f g h = h a
then_each (Err c) f g h = refl

from_none : (e : Expr) (T : List Rows) (args : List Value) (o : Option Rows) → kept_found e T args o ≡ left_found e T args (Ok []) o
unfolding kept_found left_found kept_further
from_none e T args None = refl
from_none e T args (Some table) = by (keep_of (row_test e T args) table)
  where
    by : (m : Or Rows) → mapped (λ rows. Some rows) m ≡ mapped (λ rows. Some rows) (mapped (λ more. [] ++ more) m)
    by (Ok rows) = refl
    by (Err c) = refl

pub keeping_starts : (e : Expr) (r : Recursive) (T : List Rows) (args : List Value) (k : ℕ) → kept_table e r T args k ≡ and_then (joined_of (select_rows (outermost T args)) (out-Recursive r).first) (keeping e r T args k (Ok []))
unfolding kept_table keeping
keeping_starts e r T args k =
    then_each (table_of r T args k) (kept_found e T args) (left_found e T args (Ok [])) (from_none e T args)
    ∙ ap (λ m. and_then m (left_found e T args (Ok []))) (bound.table_is r T args k)
    ∙ then_then (joined_of (select_rows (outermost T args)) (out-Recursive r).first) (worked_of r T args k []) (left_found e T args (Ok []))

pub keeping_empty : (e : Expr) (r : Recursive) (T : List Rows) (args : List Value) (k : ℕ) (so_far : Or Rows) → keeping e r T args k so_far [] ≡ mapped (λ rows. Some rows) so_far
unfolding keeping left_found kept_further keep_of
keeping_empty e r T args k so_far = ap (λ m. and_then m (left_found e T args so_far)) (bound.worked_empty r T args k []) ∙ by so_far
  where
    by : (m : Or Rows) → mapped (λ rows. Some rows) (and_then m (λ kept. Ok (kept ++ []))) ≡ mapped (λ rows. Some rows) m
    by (Ok kept) = ap (λ l. Ok (Some l)) (append-nil kept)
    by (Err c) = refl

pub keeping_ends : (e : Expr) (r : Recursive) (T : List Rows) (args : List Value) (so_far : Or Rows) (now : Rows) → (now ≡ [] → ⊥) → keeping e r T args 0 so_far now ≡ Ok None
unfolding keeping left_found
keeping_ends e r T args so_far now h = ap (λ m. and_then m (left_found e T args so_far)) (bound.worked_ends r T args [] now h)

-- tables that are done stand before those that are left
apart : (step : Rows → Or Rows) (k : ℕ) (done : Rows) (m : Or Rows) → turned (worked step k done m) ≡ mapped (option_map (λ rest. done ++ rest)) (turned (worked step k [] m))
apart step k done (Err c) = refl
apart step k done (Ok []) = ap (λ l. Ok (Some l)) (sym (append-nil done))
apart step zero done (Ok (row ∷ more)) = refl
apart step (suc k) done (Ok (row ∷ more)) =
    apart step k (done ++ row ∷ more) (step (row ∷ more))
    ∙ by (turned (worked step k [] (step (row ∷ more))))
    ∙ sym (ap (mapped (option_map (λ rest. done ++ rest))) (apart step k (row ∷ more) (step (row ∷ more))))
  where
    by : (m : Or (Option Rows)) → mapped (option_map (λ rest. (done ++ row ∷ more) ++ rest)) m ≡ mapped (option_map (λ rest. done ++ rest)) (mapped (option_map (λ rest. row ∷ (more ++ rest))) m)
    by (Err c) = refl
    by (Ok None) = refl
    by (Ok (Some rest)) = ap (λ l. Ok (Some l)) (append_assoc done (row ∷ more) rest)

worked_apart : (r : Recursive) (T : List Rows) (args : List Value) (k : ℕ) (done now : Rows) → worked_of r T args k done now ≡ mapped (option_map (λ rest. done ++ rest)) (worked_of r T args k [] now)
unfolding worked_of
worked_apart r T args k done now = apart (next_rows (recursive_part r) T args) k done (Ok now)

-- a condition over two lists, one after the other
one_put : (x : List Value) (c : _) (K R : Or Rows) → mapped (keep_if x c) (and_then K (λ ys. mapped (λ zs. ys ++ zs) R)) ≡ and_then (mapped (keep_if x c) K) (λ ys. mapped (λ zs. ys ++ zs) R)
one_put x true (Ok ys) (Ok zs) = refl
one_put x true (Ok ys) (Err e) = refl
one_put x true (Err e) R = refl
one_put x false (Ok ys) (Ok zs) = refl
one_put x false (Ok ys) (Err e) = refl
one_put x false (Err e) R = refl

one_asked : (x : List Value) (m : Or Value) (K R : Or Rows) → and_then m (λ v. mapped (keep_if x (is_true v)) (and_then K (λ ys. mapped (λ zs. ys ++ zs) R))) ≡ and_then (and_then m (λ v. mapped (keep_if x (is_true v)) K)) (λ ys. mapped (λ zs. ys ++ zs) R)
one_asked x (Err c) K R = refl
one_asked x (Ok v) K R = one_put x (is_true v) K R

keep_both : (test : List Value → Or Value) (xs ys : Rows) → keep test (xs ++ ys) ≡ and_then (keep test xs) (λ ks. mapped (λ zs. ks ++ zs) (keep test ys))
keep_both test [] ys = by (keep test ys)
  where
    by : (m : Or Rows) → m ≡ mapped (λ zs. [] ++ zs) m
    by (Ok zs) = refl
    by (Err c) = refl
keep_both test (x ∷ xs) ys = ap (λ m. and_then (test x) (λ v. mapped (keep_if x (is_true v)) m)) (keep_both test xs ys) ∙ one_asked x (test x) (keep test xs) (keep test ys)

further_both : (e : Expr) (T : List Rows) (args : List Value) (so_far : Or Rows) (now rest : Rows) → kept_further e T args so_far (now ++ rest) ≡ kept_further e T args (kept_further e T args so_far now) rest
unfolding kept_further keep_of
further_both e T args (Err c) now rest = refl
further_both e T args (Ok kept) now rest = ap (mapped (λ more. kept ++ more)) (keep_both (row_test e T args) now rest) ∙ by (keep (row_test e T args) now) (keep (row_test e T args) rest)
  where
    by : (m w : Or Rows) → mapped (λ more. kept ++ more) (and_then m (λ ks. mapped (λ zs. ks ++ zs) w)) ≡ and_then (mapped (λ more. kept ++ more) m) (λ ks. mapped (λ zs. ks ++ zs) w)
    by (Err c) w = refl
    by (Ok ks) (Err c) = refl
    by (Ok ks) (Ok zs) = ap (λ l. Ok l) (sym (append_assoc kept ks zs))

left_after : (e : Expr) (T : List Rows) (args : List Value) (so_far : Or Rows) (now : Rows) (m : Or (Option Rows)) → and_then (mapped (option_map (λ rest. now ++ rest)) m) (left_found e T args so_far) ≡ and_then m (left_found e T args (kept_further e T args so_far now))
unfolding left_found
left_after e T args so_far now (Err c) = refl
left_after e T args so_far now (Ok None) = refl
left_after e T args so_far now (Ok (Some rest)) = ap (mapped (λ rows. Some rows)) (further_both e T args so_far now rest)

pub keeping_more : (e : Expr) (r : Recursive) (T : List Rows) (args : List Value) (k : ℕ) (so_far : Or Rows) (now : Rows) → (now ≡ [] → ⊥) → 0 < k → keeping e r T args k so_far now ≡ and_then (select_rows (outermost (with_table T now) args) (out-Recursive r).second) (keeping e r T args (k - 1) (kept_further e T args so_far now))
unfolding keeping
keeping_more e r T args k so_far now h l =
    ap (λ m. and_then m (left_found e T args so_far)) (bound.worked_more r T args k [] now h l)
    ∙ then_then (select_rows (outermost (with_table T now) args) (out-Recursive r).second) (worked_of r T args (k - 1) now) (left_found e T args so_far)
    ∙ then_each (select_rows (outermost (with_table T now) args) (out-Recursive r).second) _ _ (λ next. ap (λ m. and_then m (left_found e T args so_far)) (worked_apart r T args (k - 1) now next) ∙ left_after e T args so_far now (worked_of r T args (k - 1) [] next))

pub ruleset filter_rules = (is_filter)

pub ruleset asked_rules = (gives_rules, next_item, none_left, after_none, value_at_is, each_end, each_more)

pub ruleset flag_rules = (gives_rules, flags_are)

pub ruleset further_rules = (further_held, further_flags, further_class)

pub ruleset table_rules = (gives_rules, keeping_starts, keeping_empty, keeping_ends, keeping_more)

pub ruleset over_rules = (gives_rules, over_kept_is)

pub ruleset either_rules = (kept_gives)
