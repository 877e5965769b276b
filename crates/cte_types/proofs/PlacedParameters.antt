-- A placed expression has the parameters of the expression.
use Rattle.std.proofs.Common.{◌≡◌, refl, ◌∙◌, ℕ, suc, List, [], ◌∷◌, map, Option, Some, None, option_map}
use Rattle.away_values.specs.declared.types.Ty.TheVariants as ty
use Rattle.away_values.specs.Operators.{literal_type}
use Rattle.away_values.specs.declared.operators.ChainOp.{ChainOp}
use Rattle.away_trees.specs.declared.queries.Col.{Col}
use Rattle.away_trees.specs.declared.queries.Expr.{Expr}
use Rattle.away_trees.specs.declared.queries.Expr.TheVariants as expr
use Rattle.away_trees.specs.declared.queries.Expr.TheOpen as ex
use Rattle.away_trees.specs.declared.queries.FromItem.{FromItem}
use Rattle.away_trees.specs.declared.queries.Item.{Item}
use Rattle.away_trees.specs.declared.queries.Key.{Key}
use Rattle.away_trees.specs.declared.queries.Recursive.{Recursive}
use Rattle.away_trees.specs.declared.queries.Select.{Select}
use Rattle.away_trees.specs.Algebra.{expr_of, item_of, key_of, source_of, from_of, select_of, recursive_of, query_of}
use Rattle.away_trees.proofs.Equations as eq
use Rattle.away_typing.specs.Parameters.{Found, finding, found, in_select, in_recursive, in_query}
use Rattle.sql_meaning.specs.Placed.{Deep, replacing, column_of, with_cast, placed}
use Rattle.sql_meaning.proofs.Related.{Alike, AlikeOption, AlikeLink, AlikeArm, Relation, IsKept, expr_related}

module _ (ref : ℕ → Col) where
  abbrev E : Expr → Found
  E e = expr_of finding e

  abbrev Exprs : Found → Found → Deep Expr → Type 0
  Exprs x u z = (d : ℕ) → E (z d) ≡ x

  abbrev relation : Relation finding finding (replacing (column_of ref) with_cast)
  relation = record {
    Exprs = Exprs;
    Sources = λ x u z. (d : ℕ) → source_of finding (z d) ≡ x;
    Froms = λ x u z. (d : ℕ) → from_of finding (z d) ≡ x;
    Items = λ x u z. (d : ℕ) → item_of finding (z d) ≡ x;
    Keys = λ x u z. (d : ℕ) → key_of finding (z d) ≡ x;
    Queries = λ x u z. (d : ℕ) → query_of finding (z d) ≡ x;
    Recursives = λ x u z. (d : ℕ) → recursive_of finding (z d) ≡ x;
    Selects = λ x u z. (d : ℕ) → select_of finding (z d) ≡ x;
  }

  lists : {X Z : Type 0} (R : X → X → Deep Z → Type 0) (d : ℕ) (k : Z → X) → ((x u : X) (z : Deep Z) → R x u z → k (z d) ≡ x)
      → (xs us : List X) (zs : List (Deep Z)) → Alike R xs us zs → map k (map (λ (z : Deep Z). z d) zs) ≡ xs
  lists R d k go [] [] [] r = refl
  lists R d k go (x ∷ xs) (u ∷ us) (z ∷ zs) r = λ i. go x u z r.0 i ∷ lists R d k go xs us zs r.1 i
  lists R d k go _ _ _ r = absurd r

  options : {X Z : Type 0} (R : X → X → Deep Z → Type 0) (d : ℕ) (k : Z → X) → ((x u : X) (z : Deep Z) → R x u z → k (z d) ≡ x)
      → (x u : Option X) (z : Option (Deep Z)) → AlikeOption R x u z → option_map k (option_map (λ (z : Deep Z). z d) z) ≡ x
  options R d k go None None None r = refl
  options R d k go (Some x) (Some u) (Some z) r = λ i. Some (go x u z r i)
  options R d k go _ _ _ r = absurd r

  abbrev link_at : ℕ → ChainOp × Deep Expr → ChainOp × Expr
  link_at d l = (l.0, l.1 d)

  abbrev arm_at : ℕ → Deep Expr × Deep Expr → Expr × Expr
  arm_at d a = (a.0 d, a.1 d)

  module _ (d : ℕ) where
    exprs : (xs us : List Found) (zs : List (Deep Expr)) → Alike Exprs xs us zs → map (λ e. E e) (map (λ z. z d) zs) ≡ xs
    exprs = lists Exprs d (λ e. E e) (λ x u z r. r d)

    option : (x u : Option Found) (z : Option (Deep Expr)) → AlikeOption Exprs x u z → option_map (λ e. E e) (option_map (λ z. z d) z) ≡ x
    option = options Exprs d (λ e. E e) (λ x u z r. r d)

    links : (xs us : List (ChainOp × Found)) (zs : List (ChainOp × Deep Expr)) → Alike (AlikeLink Exprs) xs us zs
        → map (λ l. eq.link_of finding l) (map (λ l. link_at d l) zs) ≡ xs
    links [] [] [] r = refl
    links (x ∷ xs) (u ∷ us) (z ∷ zs) r = λ i. (r.0.1 i, r.0.2 d i) ∷ links xs us zs r.1 i
    links _ _ _ r = absurd r

    arms : (xs us : List (Found × Found)) (zs : List (Deep Expr × Deep Expr)) → Alike (AlikeArm Exprs) xs us zs
        → map (λ a. eq.arm_of finding a) (map (λ a. arm_at d a) zs) ≡ xs
    arms [] [] [] r = refl
    arms (x ∷ xs) (u ∷ us) (z ∷ zs) r = λ i. (r.0.0 d i, r.0.1 d i) ∷ arms xs us zs r.1 i
    arms _ _ _ r = absurd r

    selects : (xs us : List Found) (zs : List (Deep Select)) → Alike (λ x u (z : Deep Select). (d : ℕ) → select_of finding (z d) ≡ x) xs us zs
        → map (λ s. select_of finding s) (map (λ z. z d) zs) ≡ xs
    selects = lists (λ x u (z : Deep Select). (d : ℕ) → select_of finding (z d) ≡ x) d (λ s. select_of finding s) (λ x u z r. r d)

  steps : IsKept finding finding (replacing (column_of ref) with_cast) relation
  steps = record {
    no_expr = λ d. refl;
    no_query = λ d. eq.of_query finding [];
    int = λ n d. eq.of_cast finding (expr.Int n) (literal_type n);
    str = λ t d. eq.of_cast finding (expr.Str t) ty.Text;
    bool = λ v d. eq.of_cast finding (expr.Bool v) ty.Boolean;
    null = λ d. refl;
    named = λ n d. refl;
    qualified = λ a n d. refl;
    slot = λ i d. refl;
    column = λ c d. refl;
    param = λ i t d. refl;
    neg = λ x u z k d. eq.of_neg finding (z d) ∙ k d;
    neg_small = λ x u z k d. eq.of_negsmall finding (z d) ∙ k d;
    not = λ x u z k d. eq.of_not finding (z d) ∙ k d;
    is = λ x u z t v k d. eq.of_is finding (z d) t v ∙ k d;
    chain = λ x u z xs us zs k r d. eq.of_chain finding (z d) (map (λ l. link_at d l) zs) ∙ (λ i. found (ex.Chain (k d i) (links d xs us zs r i)));
    compare = λ op x₁ x₂ u₁ u₂ z₁ z₂ k₁ k₂ d. eq.of_compare finding op (z₁ d) (z₂ d) ∙ (λ i. found (ex.Compare op (k₁ d i) (k₂ d i)));
    between = λ v x₁ x₂ x₃ u₁ u₂ u₃ z₁ z₂ z₃ k₁ k₂ k₃ d. eq.of_between finding v (z₁ d) (z₂ d) (z₃ d) ∙ (λ i. found (ex.Between v (k₁ d i) (k₂ d i) (k₃ d i)));
    one_of = λ v x u z xs us zs k r d. eq.of_oneof finding v (z d) (map (λ z. z d) zs) ∙ (λ i. found (ex.OneOf v (k d i) (exprs d xs us zs r i)));
    cast = λ x u z t k d. eq.of_cast finding (z d) t ∙ k d;
    cases = λ xs us zs x u z r k d.
        eq.of_cases finding (map (λ a. arm_at d a) zs) (option_map (λ z. z d) z) ∙ (λ i. found (ex.Cases (arms d xs us zs r i) (option d x u z k i)));
    call = λ name xs us zs r d. eq.of_call finding name (map (λ z. z d) zs) ∙ (λ i. found (ex.Call name (exprs d xs us zs r i)));
    count_rows = λ d. refl;
    scalar = λ x u z k d. eq.of_scalar finding (z d) ∙ k d;
    exists = λ x u z k d. eq.of_exists finding (z d) ∙ k d;
    table = λ name d. refl;
    sub = λ x u z v k d. eq.of_sub finding (z d) v ∙ k d;
    from = λ x u z alias columns k. k;
    item = λ x u z alias k. k;
    key = λ x u z descending k. k;
    select = λ l₁ l₂ l₃ f₁ f₂ f₃ w₁ w₂ w₃ o₁ o₂ o₃ m₁ m₂ m₃ lr fr wr kr mr d.
        eq.of_select finding (map (λ z. z (suc d)) l₃) (map (λ z. z (suc d)) f₃) (option_map (λ z. z (suc d)) w₃) (map (λ z. z (suc d)) o₃)
        (option_map (λ z. z (suc d)) m₃)
        ∙ (λ i. in_select (record {
          list = lists (λ x u (z : Deep Item). (d : ℕ) → item_of finding (z d) ≡ x) (suc d) (λ y. item_of finding y) (λ x u z r. r (suc d)) l₁ l₂ l₃ lr i;
          from = lists (λ x u (z : Deep FromItem). (d : ℕ) → from_of finding (z d) ≡ x) (suc d) (λ y. from_of finding y) (λ x u z r. r (suc d)) f₁ f₂ f₃ fr i;
          filter = option (suc d) w₁ w₂ w₃ wr i;
          order = lists (λ x u (z : Deep Key). (d : ℕ) → key_of finding (z d) ≡ x) (suc d) (λ y. key_of finding y) (λ x u z r. r (suc d)) o₁ o₂ o₃ kr i;
          limit = option (suc d) m₁ m₂ m₃ mr i;
        }));
    recursive = λ name columns xs us zs x u z r k d.
        eq.of_recursive finding name columns (map (λ z. z d) zs) (z d)
        ∙ (λ i. in_recursive (record { name = name; columns = columns; first = selects d xs us zs r i; second = k d i }));
    query = λ x u z xs us zs k r d.
        eq.query_roll finding (option_map (λ z. z d) z) (map (λ z. z d) zs)
        ∙ (λ i. in_query (record {
          recursive = options (λ x u (z : Deep Recursive). (d : ℕ) → recursive_of finding (z d) ≡ x) d (λ y. recursive_of finding y) (λ x u z r. r d) x u z k i;
          selects = selects d xs us zs r i;
        }));
  }

  pub placed_params : (e : Expr) → E (placed ref e) ≡ E e
  placed_params e = expr_related finding finding (replacing (column_of ref) with_cast) relation steps e 0
