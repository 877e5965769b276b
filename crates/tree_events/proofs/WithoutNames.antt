-- The events of a tree without its names are those of the tree.
use Rattle.std.proofs.Common.{◌≡◌, refl, ap, ◌∙◌, ℕ, List, [], ◌∷◌, map, take, Option, Some, None, option_map}
use Rattle.away_values.specs.declared.operators.ChainOp.{ChainOp}
use Rattle.away_trees.specs.declared.queries.Expr.{Expr}
use Rattle.away_trees.specs.declared.queries.Expr.TheOpen as ex
use Rattle.away_trees.specs.declared.queries.Source.{Source}
use Rattle.away_trees.specs.declared.queries.FromItem.{FromItem}
use Rattle.away_trees.specs.declared.queries.Item.{Item}
use Rattle.away_trees.specs.declared.queries.Key.{Key}
use Rattle.away_trees.specs.declared.queries.Select.{Select}
use Rattle.away_trees.specs.declared.queries.Recursive.{Recursive}
use Rattle.away_trees.specs.declared.queries.Query.{Query}
use Rattle.away_trees.specs.Algebra.{expr_of, item_of, key_of, source_of, from_of, select_of, recursive_of, query_of}
use Rattle.away_trees.proofs.Equations as eq
use Rattle.sql_meaning.specs.Names.{nameless, bare_columns, bare, bare_value}
use Rattle.sql_meaning.proofs.Related.{Alike, AlikeOption, AlikeLink, AlikeArm, Relation, IsKept, expr_related, query_related}
use Rattle.tree_events.specs.declared.events.Manner.{Manner}
use Rattle.tree_events.specs.Events.{Put, SourcePut, expr_node, source_node, key_node, select_node, recursive_node, query_node, table_node, shaping}

module _ (m : Manner) where
  -- ---- the relation of a tree's events and of the tree without names; the third algebra doesn't matter

  abbrev Exprs : Put → Expr → Put → Type 0
  Exprs x z w = expr_of (shaping m) z ≡ x

  abbrev Sources : SourcePut → Source → SourcePut → Type 0
  Sources x z w = (columns : List (List ℕ)) → source_of (shaping m) z (bare_columns z columns) ≡ x columns

  abbrev Froms : Put → FromItem → Put → Type 0
  Froms x z w = from_of (shaping m) z ≡ x

  abbrev Items : Put → Item → Put → Type 0
  Items x z w = item_of (shaping m) z ≡ x

  abbrev Keys : Put → Key → Put → Type 0
  Keys x z w = key_of (shaping m) z ≡ x

  abbrev Queries : Put → Query → Put → Type 0
  Queries x z w = query_of (shaping m) z ≡ x

  abbrev Recursives : Put → Recursive → Put → Type 0
  Recursives x z w = recursive_of (shaping m) z ≡ x

  abbrev Selects : Put → Select → Put → Type 0
  Selects x z w = select_of (shaping m) z ≡ x

  abbrev relation : Relation (shaping m) nameless (shaping m)
  relation =
      record {
        Exprs = Exprs;
        Sources = Sources;
        Froms = Froms;
        Items = Items;
        Keys = Keys;
        Queries = Queries;
        Recursives = Recursives;
        Selects = Selects;
      }

  -- ---- lists of parts

  list_is : {X Z W : Type 0} (R : X → Z → W → Type 0) (f : Z → X) → ((x : X) (z : Z) (w : W) → R x z w → f z ≡ x) → (xs : List X) (zs : List Z) (ws : List W) → Alike R xs zs ws → map f zs ≡ xs
  list_is R f go [] [] [] r = refl
  list_is R f go (x ∷ xs) (z ∷ zs) (w ∷ ws) r = λ i. go x z w r.0 i ∷ list_is R f go xs zs ws r.1 i
  list_is R f go _ _ _ r = absurd r

  option_is : {X Z W : Type 0} (R : X → Z → W → Type 0) (f : Z → X) → ((x : X) (z : Z) (w : W) → R x z w → f z ≡ x) → (x : Option X) (z : Option Z) (w : Option W) → AlikeOption R x z w → option_map f z ≡ x
  option_is R f go None None None r = refl
  option_is R f go (Some x) (Some z) (Some w) r = ap Some (go x z w r)
  option_is R f go _ _ _ r = absurd r

  exprs_are : (xs : List Put) (zs : List Expr) (ws : List Put) → Alike Exprs xs zs ws → map (λ e. expr_of (shaping m) e) zs ≡ xs
  exprs_are = list_is Exprs (λ e. expr_of (shaping m) e) (λ x z w r. r)

  optional_is : (x : Option Put) (z : Option Expr) (w : Option Put) → AlikeOption Exprs x z w → option_map (λ e. expr_of (shaping m) e) z ≡ x
  optional_is = option_is Exprs (λ e. expr_of (shaping m) e) (λ x z w r. r)

  links_are : (xs : List (ChainOp × Put)) (zs : List (ChainOp × Expr)) (ws : List (ChainOp × Put)) → Alike (AlikeLink Exprs) xs zs ws → map (λ l. eq.link_of (shaping m) l) zs ≡ xs
  links_are = list_is (AlikeLink Exprs) (λ l. eq.link_of (shaping m) l) (λ x z w r i. (r.0 i, r.2 i))

  arms_are : (xs : List (Put × Put)) (zs : List (Expr × Expr)) (ws : List (Put × Put)) → Alike (AlikeArm Exprs) xs zs ws → map (λ a. eq.arm_of (shaping m) a) zs ≡ xs
  arms_are = list_is (AlikeArm Exprs) (λ a. eq.arm_of (shaping m) a) (λ x z w r i. (r.0 i, r.1 i))

  items_are : (xs : List Put) (zs : List Item) (ws : List Put) → Alike Items xs zs ws → map (λ e. item_of (shaping m) e) zs ≡ xs
  items_are = list_is Items (λ e. item_of (shaping m) e) (λ x z w r. r)

  froms_are : (xs : List Put) (zs : List FromItem) (ws : List Put) → Alike Froms xs zs ws → map (λ e. from_of (shaping m) e) zs ≡ xs
  froms_are = list_is Froms (λ e. from_of (shaping m) e) (λ x z w r. r)

  keys_are : (xs : List Put) (zs : List Key) (ws : List Put) → Alike Keys xs zs ws → map (λ e. key_of (shaping m) e) zs ≡ xs
  keys_are = list_is Keys (λ e. key_of (shaping m) e) (λ x z w r. r)

  selects_are : (xs : List Put) (zs : List Select) (ws : List Put) → Alike Selects xs zs ws → map (λ e. select_of (shaping m) e) zs ≡ xs
  selects_are = list_is Selects (λ e. select_of (shaping m) e) (λ x z w r. r)

  recursives_are : (x : Option Put) (z : Option Recursive) (w : Option Put) → AlikeOption Recursives x z w → option_map (λ e. recursive_of (shaping m) e) z ≡ x
  recursives_are = option_is Recursives (λ e. recursive_of (shaping m) e) (λ x z w r. r)

  -- the digits of a table's place stay
  table_kept : (columns : List (List ℕ)) → table_node (take 1 columns) ≡ table_node columns
  table_kept [] = refl
  table_kept (c ∷ cs) = refl

  -- ---- all steps

  steps : IsKept (shaping m) nameless (shaping m) relation
  steps =
      record {
        no_expr = refl;
        no_query = eq.of_query (shaping m) [];
        int = λ n. refl;
        str = λ t. refl;
        bool = λ v. refl;
        null = refl;
        named = λ t. refl;
        qualified = λ t s. refl;
        slot = λ i. refl;
        column = λ c. refl;
        param = λ i t. refl;
        neg = λ x z w k. eq.of_neg (shaping m) z ∙ (λ i. expr_node (ex.Neg (k i)));
        neg_small = λ x z w k. eq.of_negsmall (shaping m) z ∙ (λ i. expr_node (ex.NegSmall (k i)));
        not = λ x z w k. eq.of_not (shaping m) z ∙ (λ i. expr_node (ex.Not (k i)));
        is = λ x z w test negative k. eq.of_is (shaping m) z test negative ∙ (λ i. expr_node (ex.Is (k i) test negative));
        chain = λ x z w xs zs ws k r. eq.of_chain (shaping m) z zs ∙ (λ i. expr_node (ex.Chain (k i) (links_are xs zs ws r i)));
        compare = λ op x₁ x₂ z₁ z₂ w₁ w₂ k₁ k₂. eq.of_compare (shaping m) op z₁ z₂ ∙ (λ i. expr_node (ex.Compare op (k₁ i) (k₂ i)));
        between = λ v x₁ x₂ x₃ z₁ z₂ z₃ w₁ w₂ w₃ k₁ k₂ k₃. eq.of_between (shaping m) v z₁ z₂ z₃ ∙ (λ i. expr_node (ex.Between v (k₁ i) (k₂ i) (k₃ i)));
        one_of = λ v x z w xs zs ws k r. eq.of_oneof (shaping m) v z zs ∙ (λ i. expr_node (ex.OneOf v (k i) (exprs_are xs zs ws r i)));
        cast = λ x z w t k. eq.of_cast (shaping m) z t ∙ (λ i. expr_node (ex.Cast (k i) t));
        cases = λ xs zs ws x z w r k. eq.of_cases (shaping m) zs z ∙ (λ i. expr_node (ex.Cases (arms_are xs zs ws r i) (optional_is x z w k i)));
        call = λ name xs zs ws r. eq.of_call (shaping m) name zs ∙ (λ i. expr_node (ex.Call name (exprs_are xs zs ws r i)));
        count_rows = refl;
        scalar = λ x z w k. eq.of_scalar (shaping m) z ∙ (λ i. expr_node (ex.Scalar (k i)));
        exists = λ x z w k. eq.of_exists (shaping m) z ∙ (λ i. expr_node (ex.Exists (k i)));
        table = λ name columns. table_kept columns;
        sub = λ x z w lateral k columns. ap (λ s. s []) (eq.of_sub (shaping m) z lateral) ∙ (λ i. source_node (ex.Sub (k i) lateral) columns);
        from = λ x z w alias columns k. k columns;
        item = λ x z w alias k. k;
        key = λ x z w descending k i. key_node (record { expr = k i; descending = descending });
        select = λ l₁ l₂ l₃ f₁ f₂ f₃ w₁ w₂ w₃ o₁ o₂ o₃ m₁ m₂ m₃ lr fr wr kr mr.
            eq.of_select (shaping m) l₂ f₂ w₂ o₂ m₂ ∙ (λ i. select_node m (record { list = items_are l₁ l₂ l₃ lr i; from = froms_are f₁ f₂ f₃ fr i; filter = optional_is w₁ w₂ w₃ wr i; order = keys_are o₁ o₂ o₃ kr i; limit = optional_is m₁ m₂ m₃ mr i }));
        recursive = λ name columns xs zs ws x z w r k. eq.of_recursive (shaping m) [] [] zs z ∙ (λ i. recursive_node (record { name = []; columns = []; first = selects_are xs zs ws r i; second = k i }));
        query = λ x z w xs zs ws k r. eq.query_roll (shaping m) z zs ∙ (λ i. query_node m (record { recursive = recursives_are x z w k i; selects = selects_are xs zs ws r i }));
      }

  pub bare_query_events : (q : Query) → query_of (shaping m) (bare q) ≡ query_of (shaping m) q
  bare_query_events q = query_related (shaping m) nameless (shaping m) relation steps q

  pub bare_value_events : (e : Expr) → expr_of (shaping m) (bare_value e) ≡ expr_of (shaping m) e
  bare_value_events e = expr_related (shaping m) nameless (shaping m) relation steps e
