-- The parts of a select over the tables of a schema, where a further table stands behind them.
use Rattle.std.proofs.Common.{◌≡◌, refl, ap, ℕ, Bool, true, if◌then◌else◌, List, [], ◌∷◌, ◌++◌, map, length, zip, slice_index_or, Option, Some, None, option_map, Ok}
use Rattle.std.proofs.lemmas.List.{get_or_append_left}
use Rattle.std.proofs.lemmas.Bool.{ltb-true}
use Rattle.std.specs.List.{list_all}
use Rattle.away_trees.specs.Algebra.{expr_of, from_of, key_of, source_of, head_or, queries_of}
use Rattle.away_trees.specs.declared.queries.Expr.{Expr}
use Rattle.away_trees.specs.declared.queries.Expr.TheBlock as b
use Rattle.away_trees.specs.declared.queries.Expr.TheViews.{out-FromItem, out-Key}
use Rattle.away_trees.specs.declared.queries.FromItem.{FromItem}
use Rattle.away_trees.specs.declared.queries.Key.{Key}
use Rattle.away_trees.specs.declared.queries.Source.{Source}
use Rattle.away_values.specs.declared.values.Value.{Value}
use Rattle.away_values.specs.Results.{and_then, mapped, each, each_joined}
use Rattle.sql_meaning.specs.Context.{Rows, Frame, Context, inside, outermost}
use Rattle.sql_meaning.specs.Expressions.{KeyMeaning}
use Rattle.sql_meaning.specs.Meaning.{meaning, value}
use Rattle.sql_meaning.specs.Reads.{Read, Table, reading, of_list, of_option}
use Rattle.sql_meaning.specs.Selects.{place_of, product, extend, keep, kept, ordered, sorted, comes_before, cut, taken}
use Rattle.sql_meaning.specs.Working.{with_table}
use Rattle.sql_meaning.proofs.Same as same
use Rattle.sql_meaning.proofs.Uses.{and_first, left, right}
use Rattle.inline_law.specs.Answers.{within}
use Rattle.inline_law.proofs.Reading.{reads_same, query_same}

module _ (T : List Rows) (R : Rows) (args : List Value) (calls : ℕ) where
  abbrev pub ok : Read → Bool
  ok = within calls (length T)

  pub stands : (k : ℕ) → ok (Table k) ≡ true → slice_index_or (with_table T R) k [] ≡ slice_index_or T k []
  stands k h = get_or_append_left T (R ∷ []) [] k (ltb-true k (length T) h)

  abbrev one : same.Surroundings
  one = record { env = []; args = args; outer = []; tables = T }

  abbrev two : same.Surroundings
  two = record { env = []; args = args; outer = []; tables = with_table T R }

  abbrev pub before : Context
  before = outermost T args

  abbrev pub behind : Context
  behind = outermost (with_table T R) args

  one_frame : (frame : Frame) → same.Ready 1 (frame ∷ []) []
  one_frame frame = record { size = refl; alone = λ z. refl }

  -- an expression of the select
  pub expr_same : (frame : Frame) (e : Expr) → list_all ok (expr_of reading e 1) ≡ true → value e (inside frame behind) ≡ value e (inside frame before)
  expr_same frame e h = (reads_same one two ok (λ i. refl) (λ i. refl) refl stands 1 e h).1 (frame ∷ []) [] (one_frame frame)

  -- ---- FROM

  abbrev inner : Bool → Frame → Frame
  inner lateral frame = if lateral then frame else []

  row_same : {m : _} (qs : b.Row_of-Query m) (frame : Frame) → list_all ok (head_or reading.no_query (queries_of reading qs) 1) ≡ true
      → (head_or meaning.no_query (queries_of meaning qs)).rows (inside frame behind) ≡ (head_or meaning.no_query (queries_of meaning qs)).rows (inside frame before)
  row_same b.end_of-Query frame h = refl
  row_same (b.more_of-Query q rest) frame h = query_same one two ok (λ i. refl) (λ i. refl) refl stands 1 q h (frame ∷ []) [] (one_frame frame)

  source_same : (s : Source) (frame : Frame) (columns : List (List ℕ)) → list_all ok (source_of reading s columns 1) ≡ true
      → source_of meaning s columns behind frame ≡ source_of meaning s columns before frame
  source_same (b.Table name) frame columns h = ap Ok (stands (place_of columns) (and_first (ok (Table (place_of columns))) true h))
  source_same (b.Sub' p qs lateral) frame columns h = row_same qs (inner lateral frame) h

  from_same : (f : FromItem) (frame : Frame) → list_all ok (from_of reading f 1) ≡ true → from_of meaning f behind frame ≡ from_of meaning f before frame
  from_same f frame h = source_same (out-FromItem f).source frame (out-FromItem f).columns h

  extend_same : (f : FromItem) (frames : List Frame) → list_all ok (from_of reading f 1) ≡ true
      → extend behind (from_of meaning f) frames ≡ extend before (from_of meaning f) frames
  extend_same f frames h = (λ i. each_joined (λ frame. mapped (map (λ row. frame ++ row ∷ [])) (from_same f frame h i)) frames)

  pub product_same : (fs : List FromItem) (frames : List Frame) → list_all ok (of_list 1 (map (λ f. from_of reading f) fs)) ≡ true
      → product behind (map (λ f. from_of meaning f) fs) frames ≡ product before (map (λ f. from_of meaning f) fs) frames
  product_same [] frames h = refl
  product_same (f ∷ fs) frames h =
      (λ i. and_then (extend_same f frames (left ok (from_of reading f 1) (of_list 1 (map (λ f. from_of reading f) fs)) h) i)
      (λ more. product_same fs more (right ok (from_of reading f 1) (of_list 1 (map (λ f. from_of reading f) fs)) h) i))

  -- ---- WHERE, ORDER BY and LIMIT

  pub kept_same : (o : Option Expr) (frames : List Frame) → list_all ok (of_option 1 (option_map (λ e. expr_of reading e) o)) ≡ true
      → kept behind (option_map (λ e. expr_of meaning e) o) frames ≡ kept before (option_map (λ e. expr_of meaning e) o) frames
  kept_same None frames h = refl
  kept_same (Some e) frames h = (λ i. keep (λ frame. expr_same frame e h i) frames)

  keys_at : (ks : List Key) (frame : Frame) → list_all ok (of_list 1 (map (λ k. key_of reading k) ks)) ≡ true
      → each (λ (s : KeyMeaning). s.value (inside frame behind)) (map (λ k. key_of meaning k) ks)
      ≡ each (λ (s : KeyMeaning). s.value (inside frame before)) (map (λ k. key_of meaning k) ks)
  keys_at [] frame h = refl
  keys_at (k ∷ ks) frame h =
      (λ i. and_then (expr_same frame (out-Key k).expr (left ok (key_of reading k 1) (of_list 1 (map (λ k. key_of reading k) ks)) h) i)
      (λ y. mapped (λ ys. y ∷ ys) (keys_at ks frame (right ok (key_of reading k 1) (of_list 1 (map (λ k. key_of reading k) ks)) h) i)))

  pub ordered_same : (ks : List Key) (frames : List Frame) (rows : Rows) → list_all ok (of_list 1 (map (λ k. key_of reading k) ks)) ≡ true
      → ordered behind (map (λ k. key_of meaning k) ks) frames rows ≡ ordered before (map (λ k. key_of meaning k) ks) frames rows
  ordered_same [] frames rows h = refl
  ordered_same (k ∷ ks) frames rows h =
      (λ i. mapped (λ keyed. map (λ x. x.1) (sorted (comes_before (map (λ k. key_of meaning k) (k ∷ ks))) keyed))
      (each (λ (x : Frame × List Value). mapped (λ keys. (keys, x.1)) (keys_at (k ∷ ks) x.0 h i)) (zip frames rows)))

  pub cut_same : (o : Option Expr) (rows : Rows) → list_all ok (of_option 1 (option_map (λ e. expr_of reading e) o)) ≡ true
      → cut behind (option_map (λ e. expr_of meaning e) o) rows ≡ cut before (option_map (λ e. expr_of meaning e) o) rows
  cut_same None rows h = refl
  cut_same (Some e) rows h = (λ i. and_then (expr_same [] e h i) (λ v. taken v rows))
