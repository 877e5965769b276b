-- The recursive table has the types that its terms were checked for.
use Rattle.std.proofs.Common.{◌≡◌, refl, sym, ap, subst, ◌∙◌, ℕ, zero, suc, arith, Bool, true, false, not, ◌&&◌, List, [], ◌∷◌, ◌++◌, map, length, Option, Some, None, Ok, Err}
use Rattle.std.specs.Prelude.{if◌then◌else◌, is_some, ◌==◌}
use Rattle.std.proofs.lemmas.Bool.{eqb-true}
use Rattle.away_values.specs.declared.types.Ty.{Ty}
use Rattle.away_values.specs.declared.values.Value.{Value}
use Rattle.away_values.specs.Results.{Or, each_joined}
use Rattle.away_trees.specs.Fits.{FitsSchema}
use Rattle.away_trees.specs.declared.schemas.Schema.{Schema}
use Rattle.away_trees.specs.declared.queries.Select.{Select}
use Rattle.away_trees.specs.declared.queries.Recursive.{Recursive}
use Rattle.away_trees.specs.declared.queries.Expr.TheViews.{out-Recursive, roll-out-Recursive}
use Rattle.away_trees.specs.Algebra.{select_of, recursive_of}
use Rattle.away_trees.proofs.Equations as eq
use Rattle.away_names.specs.declared.rule.Rule.TheVariants as rule
use Rattle.away_names.specs.declared.note.Times.{Times}
use Rattle.away_names.specs.Lookups.{Name}
use Rattle.away_names.specs.Notes.{breaks}
use Rattle.away_names.proofs.NamingRules.{fold_map}
use Rattle.away_typing.specs.declared.kind.Kind.{Kind}
use Rattle.away_typing.specs.Kinds.{fits}
use Rattle.away_typing.specs.Trees.{kinds_of_select}
use Rattle.away_typing.specs.Typing as typing
use Rattle.away_typing.specs.Typing.{Places, Shape, shape_of}
use Rattle.away_typing.specs.TypingLists.{union_in}
use Rattle.away_typing.specs.Wholes.{over_tables, with_table, padded, types_or_none, first_shape, recursive_types, is_never, is_once, in_own_from, is_plain, is_recursion, all_fit, fits_shape, recursion_by}
use Rattle.sql_meaning.specs.Context.{Rows, Context, outermost}
use Rattle.sql_meaning.specs.Equations.{recursive_part}
use Rattle.sql_meaning.specs.Meaning.{meaning, rows_of_select}
use Rattle.sql_meaning.specs.Working.{Bounded, next_rows, worked, recursive_table}
use Rattle.sql_meaning.proofs.Lists.{Zipped, joined_map}
use Rattle.sql_meaning.proofs.Nodes.{first_rows, second_rows}
use Rattle.type_soundness.specs.Arguments.{Supplied, standing, all}
use Rattle.type_soundness.specs.Sorts.{Every}
use Rattle.type_soundness.specs.Surroundings.{IsRow, AreRows, Fit}
use Rattle.type_soundness.proofs.CleanNotes.{Clean, clean_parts, test_fails}
use Rattle.type_soundness.proofs.KindRules.{fits_typed}
use Rattle.type_soundness.proofs.Lists.{every_append}
use Rattle.type_soundness.proofs.Selects.{IsListed}
use Rattle.type_soundness.proofs.Trees.{left, right, select_holds}
use Rattle.type_soundness.proofs.Unions.{ListingAt, union_at, shape_at}
use Rattle.type_soundness.proofs.Tables.{fit_before, fit_with}

pub both_true : (a b : Bool) → (a && b) ≡ true → (a ≡ true) × (b ≡ true)
both_true true b h = (refl, h)
both_true false b h = cc

pub not_false : (b : Bool) → not b ≡ false → b ≡ true
not_false true h = refl
not_false false h = cc

-- ---- selects that UNION ALL joins

module _ (p : Places) (cx : Context) (fit : Fit p cx) where
  listings : (xs : List Select) → Supplied cx.args (all (map (λ x. select_of standing x) xs)) → Zipped (ListingAt p cx) (map (λ x. select_of typing.typing x) xs) (map (λ x. select_of meaning x) xs)
  listings [] h = tt
  listings (x ∷ xs) h = (
    select_holds x p cx fit (left cx.args (select_of standing x) (all (map (λ x. select_of standing x) xs)) h),
    listings xs (right cx.args (select_of standing x) (all (map (λ x. select_of standing x) xs)) h),
  )

  union_is : (xs : List Select) → typing.union (map (λ x. select_of typing.typing x) xs) p ≡ union_in p xs
  unfolding kinds_of_select
  union_is xs = ap typing.or_none (fold_map _ _ _ xs)

  pub union_typed : (xs : List Select) (ts : List Ty) (out : Rows) → Supplied cx.args (all (map (λ x. select_of standing x) xs)) → shape_of (union_in p xs) ≡ Some ts → each_joined (λ x. rows_of_select x cx) xs ≡ Ok out → AreRows ts out
  union_typed xs ts out h s e =
      shape_at p cx (typing.union (map (λ x. select_of typing.typing x) xs) p) ts out
      (λ all_ d. union_at p cx (map (λ x. select_of typing.typing x) xs) (map (λ x. select_of meaning x) xs) (listings xs h) all_ d out (joined_map (λ s. s cx) (λ x. select_of meaning x) xs ∙ e))
      (ap shape_of (union_is xs) ∙ s)

-- ---- the terms

-- a row of kinds that may stand where these types are asked for
fit_row : (ts : List Ty) (ks : List Kind) (row : List Value) → all_fit ts ks ≡ true → IsListed ks row → IsRow ts row
fit_row [] [] [] f h = tt
fit_row (t ∷ ts) (k ∷ ks) (v ∷ vs) f h = let both = both_true (fits t k) (all_fit ts ks) f in (fits_typed t k v both.0 h.0.holds, fit_row ts ks vs both.1 h.1)
fit_row [] [] (v ∷ vs) f h = absurd h
fit_row [] (k ∷ ks) row f h = cc
fit_row (t ∷ ts) [] row f h = cc
fit_row (t ∷ ts) (k ∷ ks) [] f h = absurd h

fit_rows : (ts : List Ty) (ks : List Kind) (rows : Rows) → all_fit ts ks ≡ true → Every (IsListed ks) rows → AreRows ts rows
fit_rows ts ks [] f h = tt
fit_rows ts ks (row ∷ rows) f h = (fit_row ts ks row f h.0, fit_rows ts ks rows f h.1)

pub padded_all : (columns : List Name) (ts : List Ty) → length columns ≡ length ts → padded columns ts ≡ ts
padded_all [] [] h = refl
padded_all (c ∷ cs) (t ∷ ts) h = ap (λ us. t ∷ us) (padded_all cs ts (omega (arith, h)))
padded_all [] (t ∷ ts) h = absurd (omega (arith, h))
padded_all (c ∷ cs) [] h = absurd (omega (arith, h))

-- what the check of a recursive part found
pub record Found (s : Schema) (r : Recursive) (tables : List (List Ty)) : Type 0 where
  pub types : List Ty
  pub tables_are : tables ≡ with_table s types
  pub first : first_shape s r ≡ Some types
  pub kinds : List Kind
  pub second : kinds_of_select (out-Recursive r).second (over_tables (with_table s types)) ≡ Some kinds
  pub fit : all_fit types kinds ≡ true

kinds_found : (s : Schema) (r : Recursive) (types : List Ty) (tables : List (List Ty)) → tables ≡ with_table s types → first_shape s r ≡ Some types → (o : Option (List Kind)) → kinds_of_select (out-Recursive r).second (over_tables tables) ≡ o → is_some o ≡ true → fits_shape types o ≡ true → Found s r tables
unfolding fits_shape
kinds_found s r types tables t f None k i h = cc
kinds_found s r types tables t f (Some ks) k i h = record {
  types = types;
  tables_are = t;
  first = f;
  kinds = ks;
  second = ap (λ x. kinds_of_select (out-Recursive r).second (over_tables x)) (sym t) ∙ k;
  fit = h;
}

abbrev second_kinds : Schema → Times → Times → Recursive → Shape → Option (List Kind)
second_kinds s a b r o = kinds_of_select (out-Recursive r).second (over_tables (recursion_by s a b r o).tables)

found_by : (s : Schema) (a b : Times) (r : Recursive) (o : Shape) → first_shape s r ≡ o → (is_some o && is_some (second_kinds s a b r o)) ≡ true → is_recursion a b r o (second_kinds s a b r o) ≡ true → Found s r (recursion_by s a b r o).tables
unfolding recursive_types types_or_none
found_by s a b r None f i h = cc
found_by s a b r (Some ts) f i h =
    let columns = (out-Recursive r).columns in
    let never = both_true (is_never a) _ h in
    let once = both_true (is_once b) _ never.1 in
    let own = both_true (in_own_from (out-Recursive r).name (out-Recursive r).second) _ once.1 in
    let plain = both_true (is_plain (out-Recursive r).second) _ own.1 in
    let last = both_true (length columns == length ts) (fits_shape ts (second_kinds s a b r (Some ts))) plain.1 in
    let same : length columns ≡ length ts = eqb-true (length columns) (length ts) last.0 in
    let types : recursive_types a columns (Some ts) ≡ ts = ap (λ b. padded columns (if b then ts else [])) never.0 ∙ padded_all columns ts same in
    kinds_found s r ts (with_table s (recursive_types a columns (Some ts))) (ap (with_table s) types) f (second_kinds s a b r (Some ts)) refl i last.1

pub found_of : (s : Schema) (a b : Times) (r : Recursive) (shape : Shape) → first_shape s r ≡ shape → Clean (recursion_by s a b r shape).note → Found s r (recursion_by s a b r shape).tables
found_of s a b r shape f c =
    let kinds = second_kinds s a b r shape in
    let both = clean_parts (breaks rule.Types (not (is_some shape && is_some kinds))) (breaks rule.Recursion (not (is_recursion a b r shape kinds))) c in
    found_by s a b r shape f (not_false (is_some shape && is_some kinds) (test_fails rule.Types (not (is_some shape && is_some kinds)) both.0))
    (not_false (is_recursion a b r shape kinds) (test_fails rule.Recursion (not (is_recursion a b r shape kinds)) both.1))

-- ---- the rows of the recursive table

module _ (s : Schema) (r : Recursive) (whole : List (List Ty)) (found : Found s r whole) (tables : List Rows) (args : List Value) (fits_schema : FitsSchema s tables) (supplied : Supplied args (recursive_of standing r)) where
  parts_supplied : Supplied args (all (map (λ x. select_of standing x) (out-Recursive r).first) ++ select_of standing (out-Recursive r).second)
  parts_supplied =
      subst (Supplied args)
      (ap (recursive_of standing) (sym (roll-out-Recursive r)) ∙ eq.of_recursive standing (out-Recursive r).name (out-Recursive r).columns (out-Recursive r).first (out-Recursive r).second) supplied

  first_typed : (out : Rows) → (recursive_part r).first (outermost tables args) ≡ Ok out → AreRows found.types out
  first_typed out e =
      union_typed (over_tables (with_table s (padded (out-Recursive r).columns []))) (outermost tables args) (fit_before s tables args fits_schema (padded (out-Recursive r).columns []))
      (out-Recursive r).first found.types out
      (left args (all (map (λ x. select_of standing x) (out-Recursive r).first)) (select_of standing (out-Recursive r).second) parts_supplied)
      found.first (sym (first_rows r (outermost tables args)) ∙ e)

  next_typed : (rows : Rows) → AreRows found.types rows → (out : Rows) → next_rows (recursive_part r) tables args rows ≡ Ok out → AreRows found.types out
  unfolding kinds_of_select
  next_typed rows h out e =
      fit_rows found.types found.kinds out found.fit
      (select_holds (out-Recursive r).second (over_tables (with_table s found.types)) (outermost (tables ++ rows ∷ []) args) (fit_with s tables args fits_schema found.types rows h)
      (right args (all (map (λ x. select_of standing x) (out-Recursive r).first)) (select_of standing (out-Recursive r).second) parts_supplied)
      found.kinds found.second out (sym (second_rows r (outermost (tables ++ rows ∷ []) args)) ∙ e))

  some_ok : (x y : Rows) → ◌≡◌ {A = Bounded Rows} (Some (Ok x)) (Some (Ok y)) → y ≡ x
  some_ok x y e = cc

  worked_typed : (k : ℕ) (done : Rows) → AreRows found.types done → (o : Or Rows) → ((rows : Rows) → o ≡ Ok rows → AreRows found.types rows) → (out : Rows) → worked (next_rows (recursive_part r) tables args) k done o ≡ Some (Ok out) → AreRows found.types out
  worked_typed k done d (Err c) g out e = cc
  worked_typed k done d (Ok []) g out e = subst (AreRows found.types) (sym (some_ok done out e)) d
  worked_typed zero done d (Ok (row ∷ more)) g out e = cc
  worked_typed (suc k) done d (Ok (row ∷ more)) g out e =
      worked_typed k (done ++ row ∷ more) (every_append (IsRow found.types) done (row ∷ more) d (g (row ∷ more) refl))
      (next_rows (recursive_part r) tables args (row ∷ more)) (λ rows e. next_typed (row ∷ more) (g (row ∷ more) refl) rows e) out e

  pub table_typed : (k : ℕ) (out : Rows) → recursive_table (recursive_part r) tables args k ≡ Some (Ok out) → AreRows found.types out
  table_typed k out e = worked_typed k [] tt ((recursive_part r).first (outermost tables args)) first_typed out e
