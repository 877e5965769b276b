-- The equations of a query at a bound.
use Rattle.std.proofs.Common.{◌≡◌, refl, sym, ◌∙◌, ap, ℕ, zero, suc, ◌<◌, ◌-◌, List, [], ◌∷◌, ◌++◌, Some, None, Ok, Err, arith}
use Rattle.std.proofs.Math.Numerals.{sub-one}
use Rattle.away_values.specs.declared.values.Value.{Value}
use Rattle.away_trees.specs.declared.queries.Query.{Query}
use Rattle.away_trees.specs.declared.queries.Recursive.{Recursive}
use Rattle.away_trees.specs.declared.queries.Expr.TheViews.{out-Query, out-Recursive}
use Rattle.away_values.specs.Results.{Or, and_then, mapped}
use Rattle.sql_meaning.specs.Context.{Rows, outermost}
use Rattle.sql_meaning.specs.Equations.{recursive_part}
use Rattle.sql_meaning.specs.Meaning.{rows_of_query, rows_of_select}
use Rattle.sql_meaning.specs.Working.{Bounded, next_rows, over_table, recursive_table, rows, with_table, worked}
use Rattle.sql_meaning.proofs.Nodes as nodes
use Rattle.sql_meaning.specs.Gives.{query_rows, joined_of}
use Rattle.sql_meaning.specs.Selected.{select_rows}
use Rattle.sql_meaning.specs.AtBound.{turned, table_of, worked_of, rows_within, over_found, over_recursive}
use Rattle.sql_meaning.proofs.GivesRules.{gives_rules}

begun : (step : Rows → Or Rows) (k : ℕ) (done : Rows) (m : Or Rows) → turned (worked step k done m) ≡ and_then m (λ now. turned (worked step k done (Ok now)))
begun step k done (Err c) = refl
begun step k done (Ok now) = refl

pub table_is : (r : Recursive) (T : List Rows) (args : List Value) (k : ℕ) → table_of r T args k ≡ and_then (joined_of (select_rows (outermost T args)) (out-Recursive r).first) (worked_of r T args k [])
unfolding table_of worked_of joined_of select_rows
table_is r T args k =
    begun (next_rows (recursive_part r) T args) k [] ((recursive_part r).first (outermost T args))
    ∙ ap (λ m. and_then m (worked_of r T args k [])) (nodes.first_rows r (outermost T args))

pub worked_empty : (r : Recursive) (T : List Rows) (args : List Value) (k : ℕ) (done : Rows) → worked_of r T args k done [] ≡ Ok (Some done)
unfolding worked_of
worked_empty r T args k done = refl

pub worked_ends : (r : Recursive) (T : List Rows) (args : List Value) (done now : Rows) → (now ≡ [] → ⊥) → worked_of r T args 0 done now ≡ Ok None
unfolding worked_of
worked_ends r T args done [] h = absurd (h refl)
worked_ends r T args done (row ∷ more) h = refl

pub worked_more : (r : Recursive) (T : List Rows) (args : List Value) (k : ℕ) (done now : Rows) → (now ≡ [] → ⊥) → 0 < k → worked_of r T args k done now ≡ and_then (select_rows (outermost (with_table T now) args) (out-Recursive r).second) (worked_of r T args (k - 1) (done ++ now))
unfolding worked_of select_rows
worked_more r T args k done [] h l = absurd (h refl)
worked_more r T args zero done (row ∷ more) h l = absurd (omega arith)
worked_more r T args (suc k) done (row ∷ more) h l =
    begun (next_rows (recursive_part r) T args) k (done ++ row ∷ more) ((recursive_part r).second (outermost (with_table T (row ∷ more)) args))
    ∙ ap (λ m. and_then m (worked_of r T args k (done ++ row ∷ more))) (nodes.second_rows r (outermost (with_table T (row ∷ more)) args))
    ∙ ap (λ j. and_then (rows_of_select (out-Recursive r).second (outermost (with_table T (row ∷ more)) args)) (worked_of r T args j (done ++ row ∷ more))) (sym (sub-one (suc k)))

found_some : (m : Or Rows) → turned (Some m) ≡ mapped (λ rows. Some rows) m
found_some (Ok rows) = refl
found_some (Err c) = refl

pub rows_plain : (q : Query) (T : List Rows) (args : List Value) (k : ℕ) → (out-Query q).recursive ≡ None → rows_within q T args k ≡ mapped (λ rows. Some rows) (query_rows (outermost T args) q)
unfolding rows_within query_rows
rows_plain q T args k h = ap turned (nodes.rows_plain q T args k h) ∙ found_some (rows_of_query q (outermost T args))

found_over : (q : Query) (T : List Rows) (args : List Value) (b : Bounded Rows) → turned (over_table (rows_of_query q) T args b) ≡ and_then (turned b) (over_found q T args)
unfolding over_found query_rows
found_over q T args None = refl
found_over q T args (Some (Err c)) = refl
found_over q T args (Some (Ok table)) = found_some (rows_of_query q (outermost (with_table T table) args))

pub rows_with : (q : Query) (r : Recursive) (T : List Rows) (args : List Value) (k : ℕ) → (out-Query q).recursive ≡ Some r → over_recursive q r T args k ≡ rows_within q T args k
unfolding rows_within table_of over_recursive
rows_with q r T args k h = sym (ap turned (nodes.rows_recursive q r T args k h) ∙ found_over q T args (recursive_table (recursive_part r) T args k))

pub over_is : (q : Query) (r : Recursive) (T : List Rows) (args : List Value) (k : ℕ) → over_recursive q r T args k ≡ and_then (table_of r T args k) (over_found q T args)
unfolding over_recursive
over_is q r T args k = refl

pub over_none : (q : Query) (T : List Rows) (args : List Value) → over_found q T args None ≡ Ok None
unfolding over_found
over_none q T args = refl

pub over_some : (q : Query) (T : List Rows) (args : List Value) (table : Rows) → over_found q T args (Some table) ≡ mapped (λ rows. Some rows) (query_rows (outermost (with_table T table) args) q)
unfolding over_found
over_some q T args table = refl

pub ruleset table_rules = (gives_rules, table_is, worked_empty, worked_ends, worked_more)

pub ruleset bound_rules = (gives_rules, rows_plain, rows_with)

pub ruleset over_rules = (gives_rules, over_is, over_none, over_some)
