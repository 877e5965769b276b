-- A tree without its names means what it means with them.
use Rattle.std.proofs.Common.{◌≡◌, refl, ap, sym, ◌∙◌, ℕ, List, [], ◌∷◌, map, take, slice_index_or, Option, Some, None, option_map, Ok}
use Rattle.std.specs.Str.Parse.{digits_value}
use Rattle.away_values.specs.declared.values.Value.{Value}
use Rattle.away_values.specs.declared.operators.ChainOp.{ChainOp}
use Rattle.away_trees.specs.declared.queries.Expr.{Expr}
use Rattle.away_trees.specs.declared.queries.Expr.TheOpen as ex
use Rattle.away_trees.specs.declared.queries.Source.{Source}
use Rattle.away_trees.specs.declared.queries.FromItem.{FromItem}
use Rattle.away_trees.specs.declared.queries.Item.{Item}
use Rattle.away_trees.specs.declared.queries.Key.{Key}
use Rattle.away_trees.specs.declared.queries.Select.{Select}
use Rattle.away_trees.specs.declared.queries.Recursive.{Recursive}
use Rattle.away_trees.specs.declared.queries.Query.{Query}
use Rattle.away_trees.specs.Algebra.{expr_of, item_of, key_of, source_of, from_of, select_of, recursive_of, query_of}
use Rattle.away_trees.proofs.Equations as eq
use Rattle.sql_meaning.specs.Context.{Rows}
use Rattle.sql_meaning.specs.Expressions.{ExprMeaning, SourceMeaning, FromMeaning, SelectMeaning, KeyMeaning, RecursiveMeaning, QueryMeaning, expr_meaning}
use Rattle.sql_meaning.specs.Meaning.{meaning}
use Rattle.sql_meaning.specs.Names.{nameless, bare_columns, bare, bare_value}
use Rattle.sql_meaning.specs.Selects.{source_meaning, key_meaning, select_meaning, recursive_meaning, query_meaning}
use Rattle.sql_meaning.specs.Working.{rows_with, rows, answered, sql}
use Rattle.sql_meaning.proofs.Related.{Alike, AlikeOption, AlikeLink, AlikeArm, Relation, IsKept, expr_related, query_related}

-- ---- the relation of a tree's meaning and of the tree without names; the third algebra doesn't matter

abbrev Exprs : ExprMeaning → Expr → ExprMeaning → Type 0
Exprs x z w = expr_of meaning z ≡ x

abbrev Sources : SourceMeaning → Source → SourceMeaning → Type 0
Sources x z w = (columns : List (List ℕ)) → source_of meaning z (bare_columns z columns) ≡ x columns

abbrev Froms : FromMeaning → FromItem → FromMeaning → Type 0
Froms x z w = from_of meaning z ≡ x

abbrev Items : ExprMeaning → Item → ExprMeaning → Type 0
Items x z w = item_of meaning z ≡ x

abbrev Keys : KeyMeaning → Key → KeyMeaning → Type 0
Keys x z w = key_of meaning z ≡ x

abbrev Queries : QueryMeaning → Query → QueryMeaning → Type 0
Queries x z w = query_of meaning z ≡ x

abbrev Recursives : RecursiveMeaning → Recursive → RecursiveMeaning → Type 0
Recursives x z w = recursive_of meaning z ≡ x

abbrev Selects : SelectMeaning → Select → SelectMeaning → Type 0
Selects x z w = select_of meaning z ≡ x

abbrev relation : Relation meaning nameless meaning
relation =
    record {
      Exprs = Exprs;
      Sources = Sources;
      Froms = Froms;
      Items = Items;
      Keys = Keys;
      Queries = Queries;
      Recursives = Recursives;
      Selects = Selects;
    }

-- ---- lists of parts

list_is : {X Z W : Type 0} (R : X → Z → W → Type 0) (f : Z → X) → ((x : X) (z : Z) (w : W) → R x z w → f z ≡ x) → (xs : List X) (zs : List Z) (ws : List W) → Alike R xs zs ws → map f zs ≡ xs
list_is R f go [] [] [] r = refl
list_is R f go (x ∷ xs) (z ∷ zs) (w ∷ ws) r = λ i. go x z w r.0 i ∷ list_is R f go xs zs ws r.1 i
list_is R f go _ _ _ r = absurd r

option_is : {X Z W : Type 0} (R : X → Z → W → Type 0) (f : Z → X) → ((x : X) (z : Z) (w : W) → R x z w → f z ≡ x) → (x : Option X) (z : Option Z) (w : Option W) → AlikeOption R x z w → option_map f z ≡ x
option_is R f go None None None r = refl
option_is R f go (Some x) (Some z) (Some w) r = ap Some (go x z w r)
option_is R f go _ _ _ r = absurd r

exprs_are : (xs : List ExprMeaning) (zs : List Expr) (ws : List ExprMeaning) → Alike Exprs xs zs ws → map (λ e. expr_of meaning e) zs ≡ xs
exprs_are = list_is Exprs (λ e. expr_of meaning e) (λ x z w r. r)

optional_is : (x : Option ExprMeaning) (z : Option Expr) (w : Option ExprMeaning) → AlikeOption Exprs x z w → option_map (λ e. expr_of meaning e) z ≡ x
optional_is = option_is Exprs (λ e. expr_of meaning e) (λ x z w r. r)

links_are : (xs : List (ChainOp × ExprMeaning)) (zs : List (ChainOp × Expr)) (ws : List (ChainOp × ExprMeaning)) → Alike (AlikeLink Exprs) xs zs ws → map (λ l. eq.link_of meaning l) zs ≡ xs
links_are = list_is (AlikeLink Exprs) (λ l. eq.link_of meaning l) (λ x z w r i. (r.0 i, r.2 i))

arms_are : (xs : List (ExprMeaning × ExprMeaning)) (zs : List (Expr × Expr)) (ws : List (ExprMeaning × ExprMeaning)) → Alike (AlikeArm Exprs) xs zs ws → map (λ a. eq.arm_of meaning a) zs ≡ xs
arms_are = list_is (AlikeArm Exprs) (λ a. eq.arm_of meaning a) (λ x z w r i. (r.0 i, r.1 i))

items_are : (xs : List ExprMeaning) (zs : List Item) (ws : List ExprMeaning) → Alike Items xs zs ws → map (λ e. item_of meaning e) zs ≡ xs
items_are = list_is Items (λ e. item_of meaning e) (λ x z w r. r)

froms_are : (xs : List FromMeaning) (zs : List FromItem) (ws : List FromMeaning) → Alike Froms xs zs ws → map (λ e. from_of meaning e) zs ≡ xs
froms_are = list_is Froms (λ e. from_of meaning e) (λ x z w r. r)

keys_are : (xs : List KeyMeaning) (zs : List Key) (ws : List KeyMeaning) → Alike Keys xs zs ws → map (λ e. key_of meaning e) zs ≡ xs
keys_are = list_is Keys (λ e. key_of meaning e) (λ x z w r. r)

selects_are : (xs : List SelectMeaning) (zs : List Select) (ws : List SelectMeaning) → Alike Selects xs zs ws → map (λ e. select_of meaning e) zs ≡ xs
selects_are = list_is Selects (λ e. select_of meaning e) (λ x z w r. r)

recursives_are : (x : Option RecursiveMeaning) (z : Option Recursive) (w : Option RecursiveMeaning) → AlikeOption Recursives x z w → option_map (λ e. recursive_of meaning e) z ≡ x
recursives_are = option_is Recursives (λ e. recursive_of meaning e) (λ x z w r. r)

-- the digits of a table's place stay
first_kept : (columns : List (List ℕ)) → slice_index_or (take 1 columns) 0 [] ≡ slice_index_or columns 0 []
first_kept [] = refl
first_kept (c ∷ cs) = refl

-- ---- all steps

steps : IsKept meaning nameless meaning relation
steps =
    record {
      no_expr = refl;
      no_query = eq.of_query meaning [];
      int = λ n. refl;
      str = λ t. refl;
      bool = λ v. refl;
      null = refl;
      named = λ t. refl;
      qualified = λ t s. refl;
      slot = λ i. refl;
      column = λ c. refl;
      param = λ i t. refl;
      neg = λ x z w k. eq.of_neg meaning z ∙ (λ i. expr_meaning (ex.Neg (k i)));
      neg_small = λ x z w k. eq.of_negsmall meaning z ∙ (λ i. expr_meaning (ex.NegSmall (k i)));
      not = λ x z w k. eq.of_not meaning z ∙ (λ i. expr_meaning (ex.Not (k i)));
      is = λ x z w test negative k. eq.of_is meaning z test negative ∙ (λ i. expr_meaning (ex.Is (k i) test negative));
      chain = λ x z w xs zs ws k r. eq.of_chain meaning z zs ∙ (λ i. expr_meaning (ex.Chain (k i) (links_are xs zs ws r i)));
      compare = λ op x₁ x₂ z₁ z₂ w₁ w₂ k₁ k₂. eq.of_compare meaning op z₁ z₂ ∙ (λ i. expr_meaning (ex.Compare op (k₁ i) (k₂ i)));
      between = λ v x₁ x₂ x₃ z₁ z₂ z₃ w₁ w₂ w₃ k₁ k₂ k₃. eq.of_between meaning v z₁ z₂ z₃ ∙ (λ i. expr_meaning (ex.Between v (k₁ i) (k₂ i) (k₃ i)));
      one_of = λ v x z w xs zs ws k r. eq.of_oneof meaning v z zs ∙ (λ i. expr_meaning (ex.OneOf v (k i) (exprs_are xs zs ws r i)));
      cast = λ x z w t k. eq.of_cast meaning z t ∙ (λ i. expr_meaning (ex.Cast (k i) t));
      cases = λ xs zs ws x z w r k. eq.of_cases meaning zs z ∙ (λ i. expr_meaning (ex.Cases (arms_are xs zs ws r i) (optional_is x z w k i)));
      call = λ name xs zs ws r. eq.of_call meaning name zs ∙ (λ i. expr_meaning (ex.Call name (exprs_are xs zs ws r i)));
      count_rows = refl;
      scalar = λ x z w k. eq.of_scalar meaning z ∙ (λ i. expr_meaning (ex.Scalar (k i)));
      exists = λ x z w k. eq.of_exists meaning z ∙ (λ i. expr_meaning (ex.Exists (k i)));
      table = λ name columns i cx frame. Ok (slice_index_or cx.tables (digits_value 10 (first_kept columns i)) []);
      sub = λ x z w lateral k columns. ap (λ s. s []) (eq.of_sub meaning z lateral) ∙ (λ i. source_meaning (ex.Sub (k i) lateral) columns);
      from = λ x z w alias columns k. k columns;
      item = λ x z w alias k. k;
      key = λ x z w descending k i. key_meaning (record { expr = k i; descending = descending });
      select = λ l₁ l₂ l₃ f₁ f₂ f₃ w₁ w₂ w₃ o₁ o₂ o₃ m₁ m₂ m₃ lr fr wr kr mr.
          eq.of_select meaning l₂ f₂ w₂ o₂ m₂ ∙ (λ i. select_meaning (record { list = items_are l₁ l₂ l₃ lr i; from = froms_are f₁ f₂ f₃ fr i; filter = optional_is w₁ w₂ w₃ wr i; order = keys_are o₁ o₂ o₃ kr i; limit = optional_is m₁ m₂ m₃ mr i }));
      recursive = λ name columns xs zs ws x z w r k. eq.of_recursive meaning [] [] zs z ∙ (λ i. recursive_meaning (record { name = []; columns = []; first = selects_are xs zs ws r i; second = k i }));
      query = λ x z w xs zs ws k r. eq.query_roll meaning z zs ∙ (λ i. query_meaning (record { recursive = recursives_are x z w k i; selects = selects_are xs zs ws r i }));
    }

pub bare_means : (q : Query) → query_of meaning (bare q) ≡ query_of meaning q
bare_means q = query_related meaning nameless meaning relation steps q

pub same_value : (e : Expr) → expr_of meaning (bare_value e) ≡ expr_of meaning e
same_value e = expr_related meaning nameless meaning relation steps e

-- two queries that differ in names have one answer
pub same_rows : (q r : Query) → bare q ≡ bare r → (T : List Rows) (args : List Value) (k : ℕ) → rows q T args k ≡ rows r T args k
same_rows q r same T args k = ap (λ m. rows_with m.recursive m.rows T args k) (sym (bare_means q) ∙ (ap (query_of meaning) same ∙ bare_means r))

pub same_sql : (q r : Query) → bare q ≡ bare r → (T : List Rows) (args : List Value) (k : ℕ) → sql q T args k ≡ sql r T args k
same_sql q r same T args k = ap answered (same_rows q r same T args k)
