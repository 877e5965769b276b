-- What a checked query answers is of the types that its check found.
use Rattle.std.proofs.Common.{◌≡◌, refl, sym, ap, subst, ◌∙◌, ℕ, Bool, true, false, not, List, [], ◌∷◌, ◌++◌, map, Option, Some, None, Ok, Err, option_map}
use Rattle.std.specs.Prelude.{if◌then◌else◌, is_some}
use Rattle.away_values.specs.declared.types.Ty.{Ty}
use Rattle.away_values.specs.declared.types.Ty.TheVariants as ty
use Rattle.away_values.specs.declared.values.Value.{Value}
use Rattle.away_values.specs.declared.values.Value.TheVariants as val
use Rattle.away_values.specs.declared.values.Answer.TheVariants as answer
use Rattle.away_values.specs.Classes.{is_class}
use Rattle.away_values.specs.Results.{Or, class}
use Rattle.away_trees.specs.Fits.{FitsSchema}
use Rattle.away_trees.specs.declared.schemas.Schema.{Schema}
use Rattle.away_trees.specs.declared.queries.Query.{Query}
use Rattle.away_trees.specs.declared.queries.Recursive.{Recursive}
use Rattle.away_trees.specs.declared.queries.Expr.TheViews.{out-Query}
use Rattle.away_trees.specs.Algebra.{query_of, recursive_of, select_of}
use Rattle.away_trees.proofs.Equations as eq
use Rattle.away_names.specs.declared.rule.Rule.TheVariants as rule
use Rattle.away_names.specs.declared.note.File.{File}
use Rattle.away_names.specs.declared.note.Times.{Times}
use Rattle.away_names.specs.Notes.{joined, breaks}
use Rattle.away_typing.specs.ParameterLists.{params_of, with_query}
use Rattle.away_typing.specs.Parameters.{no_params}
use Rattle.away_typing.specs.Typing.{Shape, shape_of}
use Rattle.away_typing.specs.TypingLists.{union_in}
use Rattle.away_typing.specs.Wholes.{judged, recursion, recursion_by, first_shape, final_shape, first_type, is_answer, answer_note, uses_note, over_tables, with_table, column_types}
use Rattle.sql_meaning.specs.Context.{Rows, outermost}
use Rattle.sql_meaning.specs.Equations.{recursive_part}
use Rattle.sql_meaning.specs.Meaning.{rows_of_query}
use Rattle.sql_meaning.specs.Working.{Bounded, rows, answered, answer_of_rows, over_table, recursive_table}
use Rattle.sql_meaning.proofs.Nodes.{rows_plain, rows_recursive, rows_union}
use Rattle.away_types.specs.CheckedQueries.{IsCheckedQuery, resolved_file}
use Rattle.type_soundness.specs.Arguments.{Supplied, standing, all, maybe}
use Rattle.type_soundness.specs.Sorts.{IsOf}
use Rattle.type_soundness.specs.Surroundings.{AreRows}
use Rattle.type_soundness.proofs.CleanNotes.{Clean, clean_parts, test_fails}
use Rattle.type_soundness.proofs.Found.{query_supplied}
use Rattle.type_soundness.proofs.KindRules.{same_is}
use Rattle.type_soundness.proofs.Trees.{left, right}
use Rattle.type_soundness.specs.TypedAnswers.{IsTyped}
use Rattle.type_soundness.proofs.Recursions.{not_false, union_typed, Found, found_of, table_typed}
use Rattle.type_soundness.proofs.Tables.{fit_plain, fit_with}

-- ---- what the rows say

same_answer : (v w : Value) → answer.Value v ≡ answer.Value w → w ≡ v
same_answer v w e = cc

fault_or_shape : (b : Bool) (t : List ℕ) (n : ℕ) (v : Value) → (if b then answer.Fault (class t) else answer.Shape n) ≡ answer.Value v → ⊥
fault_or_shape true t n v e = cc
fault_or_shape false t n v e = cc

answered_value : (t : Ty) (out : Rows) (v : Value) → AreRows (t ∷ ty.Text ∷ []) out → answer_of_rows out ≡ answer.Value v → IsOf t v
answered_value t [] v h e = cc
answered_value t ([] ∷ more) v h e = absurd h.0
answered_value t ((a ∷ []) ∷ more) v h e = absurd h.0.1
answered_value t ((a ∷ b ∷ c ∷ cs) ∷ more) v h e = absurd h.0.1.1
answered_value t ((a ∷ val.Null ∷ []) ∷ []) v h e = subst (IsOf t) (sym (same_answer a v e)) h.0.0
answered_value t ((val.Null ∷ val.Text s ∷ []) ∷ []) v h e = absurd (fault_or_shape (is_class s) s 1 v e)
answered_value t ((val.Int a ∷ val.Text s ∷ []) ∷ []) v h e = cc
answered_value t ((val.Bool a ∷ val.Text s ∷ []) ∷ []) v h e = cc
answered_value t ((val.Text a ∷ val.Text s ∷ []) ∷ []) v h e = cc
answered_value t ((a ∷ val.Int b ∷ []) ∷ []) v h e = absurd h.0.1.0
answered_value t ((a ∷ val.Bool b ∷ []) ∷ []) v h e = absurd h.0.1.0
answered_value t ((a ∷ val.Null ∷ []) ∷ row ∷ more) v h e = cc
answered_value t ((val.Null ∷ val.Text s ∷ []) ∷ row ∷ more) v h e = cc
answered_value t ((val.Int a ∷ val.Text s ∷ []) ∷ row ∷ more) v h e = cc
answered_value t ((val.Bool a ∷ val.Text s ∷ []) ∷ row ∷ more) v h e = cc
answered_value t ((val.Text a ∷ val.Text s ∷ []) ∷ row ∷ more) v h e = cc
answered_value t ((a ∷ val.Int b ∷ []) ∷ row ∷ more) v h e = absurd h.0.1.0
answered_value t ((a ∷ val.Bool b ∷ []) ∷ row ∷ more) v h e = absurd h.0.1.0

answer_typed : (t : Ty) (o : Bounded Rows) (v : Value) → ((out : Rows) → o ≡ Some (Ok out) → AreRows (t ∷ ty.Text ∷ []) out) → answered o ≡ answer.Value v → IsOf t v
answer_typed t None v h e = cc
answer_typed t (Some (Err c)) v h e = cc
answer_typed t (Some (Ok out)) v h e = answered_value t out v (h out refl) e

-- ---- the selects of a query, over its recursive table or without

module _ (s : Schema) (tables : List Rows) (args : List Value) (fits : FitsSchema s tables) (q : Query) (supplied : Supplied args (query_of standing q)) where
  parts : Supplied args (maybe (option_map (λ r. recursive_of standing r) (out-Query q).recursive) ++ all (map (λ x. select_of standing x) (out-Query q).selects))
  parts = subst (Supplied args) (eq.query_is standing q) supplied

  selects : Supplied args (all (map (λ x. select_of standing x) (out-Query q).selects))
  selects = right args (maybe (option_map (λ r. recursive_of standing r) (out-Query q).recursive)) (all (map (λ x. select_of standing x) (out-Query q).selects)) parts

  terms : (r : Recursive) → (out-Query q).recursive ≡ Some r → Supplied args (recursive_of standing r)
  terms r e =
      left args (recursive_of standing r) (all (map (λ x. select_of standing x) (out-Query q).selects))
      (subst (λ o. Supplied args (maybe (option_map (λ r. recursive_of standing r) o) ++ all (map (λ x. select_of standing x) (out-Query q).selects))) e parts)

  some_ok : (o : Or Rows) (out : Rows) → ◌≡◌ {A = Bounded Rows} (Some o) (Some (Ok out)) → o ≡ Ok out
  some_ok o out e = cc

  plain_typed : (ts : List Ty) (k : ℕ) (out : Rows) → (out-Query q).recursive ≡ None → shape_of (union_in (over_tables (column_types s)) (out-Query q).selects) ≡ Some ts → rows q tables args k ≡ Some (Ok out) → AreRows ts out
  plain_typed ts k out n h e =
      union_typed (over_tables (column_types s)) (outermost tables args) (fit_plain s tables args fits) (out-Query q).selects ts out selects h
      (sym (rows_union q (outermost tables args)) ∙ some_ok (rows_of_query q (outermost tables args)) out (sym (rows_plain q tables args k n) ∙ e))

  over_typed : (ts : List Ty) (r : Recursive) (whole : List (List Ty)) (found : Found s r whole) → shape_of (union_in (over_tables whole) (out-Query q).selects) ≡ Some ts → (b : Bounded Rows) → ((table : Rows) → b ≡ Some (Ok table) → AreRows found.types table) → (out : Rows) → over_table (rows_of_query q) tables args b ≡ Some (Ok out) → AreRows ts out
  over_typed ts r whole found h None g out e = cc
  over_typed ts r whole found h (Some (Err c)) g out e = cc
  over_typed ts r whole found h (Some (Ok table)) g out e =
      union_typed (over_tables (with_table s found.types)) (outermost (tables ++ table ∷ []) args) (fit_with s tables args fits found.types table (g table refl)) (out-Query q).selects ts out selects
      (subst (λ w. shape_of (union_in (over_tables w) (out-Query q).selects) ≡ Some ts) found.tables_are h)
      (sym (rows_union q (outermost (tables ++ table ∷ []) args)) ∙ some_ok (rows_of_query q (outermost (tables ++ table ∷ []) args)) out e)

  rows_typed : (a b : Times) (ts : List Ty) (o : Option Recursive) → (out-Query q).recursive ≡ o → Clean (recursion s a b o).note → final_shape q (recursion s a b o) ≡ Some ts → (k : ℕ) (out : Rows) → rows q tables args k ≡ Some (Ok out) → AreRows ts out
  rows_typed a b ts None n c h k out e = plain_typed ts k out n h e
  rows_typed a b ts (Some r) n c h k out e =
      let found = found_of s a b r (first_shape s r) refl c in
      over_typed ts r (recursion_by s a b r (first_shape s r)).tables found h (recursive_table (recursive_part r) tables args k)
      (λ table d. table_typed s r (recursion_by s a b r (first_shape s r)).tables found tables args fits (terms r n) k table d)
      out (sym (rows_recursive q r tables args k n) ∙ e)

-- ---- two columns, of which the second is text

record Two (shape : Shape) : Type 0 where
  first : Ty
  is : shape ≡ Some (first ∷ ty.Text ∷ [])

two_of : (shape : Shape) → is_answer shape ≡ true → Two shape
unfolding is_answer
two_of None h = cc
two_of (Some []) h = cc
two_of (Some (t ∷ [])) h = cc
two_of (Some (t ∷ u ∷ [])) h = record { first = t; is = ap (λ u. Some (t ∷ u ∷ [])) (same_is u ty.Text h) }
two_of (Some (t ∷ u ∷ w ∷ ts)) h = cc

first_is : (shape : Shape) (two : Two shape) → shape ≡ Some (first_type shape ∷ ty.Text ∷ [])
unfolding first_type
first_is shape two = two.is ∙ ap (λ t. Some (t ∷ ty.Text ∷ [])) (sym (ap first_type two.is))

-- ---- the whole

record Judged (s : Schema) (f : File) : Type 0 where
  params : (params_of f.query).clash ≡ false
  terms : Clean (recursion s f.first.refers f.second.refers (out-Query f.query).recursive).note
  shape : final_shape f.query (recursion s f.first.refers f.second.refers (out-Query f.query).recursive)
      ≡ Some (first_type (final_shape f.query (recursion s f.first.refers f.second.refers (out-Query f.query).recursive)) ∷ ty.Text ∷ [])

judged_parts : (s : Schema) (f : File) → Clean (judged s f).note → Judged s f
unfolding judged
judged_parts s f c =
    let r = recursion s f.first.refers f.second.refers (out-Query f.query).recursive in
    let shape = final_shape f.query r in
    let whole = clean_parts (joined f.note (uses_note f.query)) (joined (breaks rule.Types (params_of f.query).clash) (joined r.note (answer_note shape))) c in
    let params = clean_parts (breaks rule.Types (params_of f.query).clash) (joined r.note (answer_note shape)) whole.1 in
    let rest = clean_parts r.note (answer_note shape) params.1 in
    let ends = clean_parts (breaks rule.Types (not (is_some shape))) (breaks rule.Answer (not (is_answer shape))) rest.1 in
    record {
      params = test_fails rule.Types (params_of f.query).clash params.0;
      terms = rest.0;
      shape = first_is shape (two_of shape (not_false (is_answer shape) (test_fails rule.Answer (not (is_answer shape)) ends.1)));
    }

of_file : (s : Schema) (f : File) → Clean (judged s f).note → (tables : List Rows) (args : List Value) (k : ℕ) (out : Rows) → FitsSchema s tables → Supplied args (judged s f).params → rows f.query tables args k ≡ Some (Ok out) → AreRows ((judged s f).result ∷ ty.Text ∷ []) out
unfolding judged with_query
of_file s f c tables args k out fits supplied e =
    let parts = judged_parts s f c in
    rows_typed s tables args fits f.query (query_supplied args f.query no_params (parts.params, supplied)) f.first.refers f.second.refers
    (first_type (final_shape f.query (recursion s f.first.refers f.second.refers (out-Query f.query).recursive)) ∷ ty.Text ∷ [])
    (out-Query f.query).recursive refl parts.terms parts.shape k out e

pub typed : (s : Schema) (written checked : Query) (params : List (ℕ × Ty)) (first : Ty) → IsCheckedQuery s written checked params first → IsTyped s checked params first
typed s written checked params first h = record {
  rows_are = are;
  answer_is = λ tables args k v fits supplied e. answer_typed first (rows checked tables args k) v (λ out d. are tables args k out fits supplied d) e;
}
  where
    are : (tables : List Rows) (args : List Value) (k : ℕ) (out : Rows) → FitsSchema s tables → Supplied args params → rows checked tables args k ≡ Some (Ok out) → AreRows (first ∷ ty.Text ∷ []) out
    are tables args k out fits supplied e =
        subst (λ t. AreRows (t ∷ ty.Text ∷ []) out) (sym h.first_is)
        (of_file s (resolved_file s written) h.unbroken tables args k out fits (subst (Supplied args) h.params_are supplied)
        (ap (λ q. rows q tables args k) (sym h.query) ∙ e))
