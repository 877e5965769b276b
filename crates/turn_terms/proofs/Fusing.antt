-- An expression with others in place of its slots, over a row, is the expression with those over the row in place of its slots.
use Rattle.std.proofs.Common.{◌≡◌, refl, ap, sym, ◌∙◌, ℕ, suc, Bool, List, [], ◌∷◌, map, Option, Some, None, option_map}
use Rattle.away_values.specs.declared.types.Ty.TheVariants as ty
use Rattle.away_values.specs.Operators.{literal_type}
use Rattle.away_values.specs.declared.operators.ChainOp.{ChainOp}
use Rattle.away_trees.specs.declared.queries.Expr.{Expr}
use Rattle.away_trees.specs.declared.queries.Expr.TheVariants as expr
use Rattle.away_trees.specs.declared.queries.Expr.TheViews.{roll-FromItem, roll-Item, roll-Key, roll-Query, roll-Recursive, roll-Select}
use Rattle.away_trees.specs.declared.queries.FromItem.{FromItem}
use Rattle.away_trees.specs.declared.queries.Item.{Item}
use Rattle.away_trees.specs.declared.queries.Key.{Key}
use Rattle.away_trees.specs.declared.queries.Query.{Query}
use Rattle.away_trees.specs.declared.queries.Recursive.{Recursive}
use Rattle.away_trees.specs.declared.queries.Select.{Select}
use Rattle.away_trees.specs.declared.queries.Source.{Source}
use Rattle.away_trees.specs.declared.queries.Source.TheVariants as source
use Rattle.away_trees.specs.Algebra.{Algebra, expr_of, source_of, from_of, item_of, key_of, query_of, recursive_of, select_of}
use Rattle.away_trees.proofs.Equations as eq
use Rattle.away_trees.proofs.Equations.{link_of, arm_of}
use Rattle.sql_meaning.specs.Placed.{Deep, replacing, with_cast}
use Rattle.sql_meaning.specs.Trees.{col}
use Rattle.sql_meaning.proofs.Related.{Alike, AlikeOption, AlikeLink, AlikeArm, Relation, IsKept, expr_related}
use Rattle.turn_terms.specs.References.{as_it_is}

-- ---- lists of parts

nested : {X Y Z U V W : Type 0} (R : X → Y → Z → Type 0) (a : X → U) (b : U → V) (c : V → W) (g : Z → W) → ((x : X) (y : Y) (z : Z) → R x y z → c (b (a x)) ≡ g z)
    → (xs : List X) (ys : List Y) (zs : List Z) → Alike R xs ys zs → map c (map b (map a xs)) ≡ map g zs
nested R a b c g one [] [] [] h = refl
nested R a b c g one (x ∷ xs) (y ∷ ys) (z ∷ zs) h = λ i. one x y z h.0 i ∷ nested R a b c g one xs ys zs h.1 i
nested R a b c g one [] [] (z ∷ zs) h = absurd h
nested R a b c g one [] (y ∷ ys) zs h = absurd h
nested R a b c g one (x ∷ xs) [] zs h = absurd h
nested R a b c g one (x ∷ xs) (y ∷ ys) [] h = absurd h

maybe : {X Y Z U V W : Type 0} (R : X → Y → Z → Type 0) (a : X → U) (b : U → V) (c : V → W) (g : Z → W) → ((x : X) (y : Y) (z : Z) → R x y z → c (b (a x)) ≡ g z)
    → (x : Option X) (y : Option Y) (z : Option Z) → AlikeOption R x y z → option_map c (option_map b (option_map a x)) ≡ option_map g z
maybe R a b c g one None None None h = refl
maybe R a b c g one (Some x) (Some y) (Some z) h = ap Some (one x y z h)
maybe R a b c g one None None (Some z) h = absurd h
maybe R a b c g one None (Some y) z h = absurd h
maybe R a b c g one (Some x) None z h = absurd h
maybe R a b c g one (Some x) (Some y) None h = absurd h

module _ (leaf : ℕ → Expr) where
  abbrev first : Algebra
  first = replacing (λ d i. leaf i) with_cast

  abbrev rows : Algebra
  rows = replacing (λ d i. col d 0 i) as_it_is

  abbrev both : Algebra
  both = replacing (λ d i. expr_of rows (leaf i) d) with_cast

  -- ---- the relation

  abbrev Exprs : Deep Expr → Deep Expr → Deep Expr → Type 0
  Exprs x y z = (k d : ℕ) → expr_of rows (x k) d ≡ z d

  abbrev Sources : Deep Source → Deep Source → Deep Source → Type 0
  Sources x y z = (k d : ℕ) → source_of rows (x k) d ≡ z d

  abbrev Froms : Deep FromItem → Deep FromItem → Deep FromItem → Type 0
  Froms x y z = (k d : ℕ) → from_of rows (x k) d ≡ z d

  abbrev Items : Deep Item → Deep Item → Deep Item → Type 0
  Items x y z = (k d : ℕ) → item_of rows (x k) d ≡ z d

  abbrev Keys : Deep Key → Deep Key → Deep Key → Type 0
  Keys x y z = (k d : ℕ) → key_of rows (x k) d ≡ z d

  abbrev Queries : Deep Query → Deep Query → Deep Query → Type 0
  Queries x y z = (k d : ℕ) → query_of rows (x k) d ≡ z d

  abbrev Recursives : Deep Recursive → Deep Recursive → Deep Recursive → Type 0
  Recursives x y z = (k d : ℕ) → recursive_of rows (x k) d ≡ z d

  abbrev Selects : Deep Select → Deep Select → Deep Select → Type 0
  Selects x y z = (k d : ℕ) → select_of rows (x k) d ≡ z d

  abbrev relation : Relation first both both
  relation =
      record {
        Exprs = Exprs;
        Sources = Sources;
        Froms = Froms;
        Items = Items;
        Keys = Keys;
        Queries = Queries;
        Recursives = Recursives;
        Selects = Selects;
      }

  -- ---- lists of parts at a depth

  module _ (k d : ℕ) where
    exprs : (xs ys zs : List (Deep Expr)) → Alike Exprs xs ys zs → map (λ (x : Deep Expr). x d) (map (λ e. expr_of rows e) (map (λ (x : Deep Expr). x k) xs)) ≡ map (λ (z : Deep Expr). z d) zs
    exprs = nested Exprs (λ x. x k) (λ e. expr_of rows e) (λ x. x d) (λ z. z d) (λ x y z h. h k d)

    links : (xs ys zs : List (ChainOp × Deep Expr)) → Alike (AlikeLink Exprs) xs ys zs
        → map {B = ChainOp × Expr} (λ (l : ChainOp × Deep Expr). (l.0, l.1 d)) (map (λ l. link_of rows l) (map {B = ChainOp × Expr} (λ (l : ChainOp × Deep Expr). (l.0, l.1 k)) xs)) ≡ map {B = ChainOp × Expr} (λ (l : ChainOp × Deep Expr). (l.0, l.1 d)) zs
    links =
        nested (AlikeLink Exprs) (λ l. (l.0, l.1 k)) (λ l. link_of rows l) (λ l. (l.0, l.1 d)) (λ l. (l.0, l.1 d))
        (λ x y z h. λ i. (sym h.1 i, h.2 k d i))

    arms : (xs ys zs : List (Deep Expr × Deep Expr)) → Alike (AlikeArm Exprs) xs ys zs
        → map {B = Expr × Expr} (λ (a : Deep Expr × Deep Expr). (a.0 d, a.1 d)) (map (λ a. arm_of rows a) (map {B = Expr × Expr} (λ (a : Deep Expr × Deep Expr). (a.0 k, a.1 k)) xs)) ≡ map {B = Expr × Expr} (λ (a : Deep Expr × Deep Expr). (a.0 d, a.1 d)) zs
    arms =
        nested (AlikeArm Exprs) (λ a. (a.0 k, a.1 k)) (λ a. arm_of rows a) (λ a. (a.0 d, a.1 d)) (λ a. (a.0 d, a.1 d))
        (λ x y z h. λ i. (h.0 k d i, h.1 k d i))

    option : (x y z : Option (Deep Expr)) → AlikeOption Exprs x y z → option_map (λ (x : Deep Expr). x d) (option_map (λ e. expr_of rows e) (option_map (λ (x : Deep Expr). x k) x)) ≡ option_map (λ (z : Deep Expr). z d) z
    option = maybe Exprs (λ x. x k) (λ e. expr_of rows e) (λ x. x d) (λ z. z d) (λ x y z h. h k d)

    items : (xs ys zs : List (Deep Item)) → Alike Items xs ys zs → map (λ (x : Deep Item). x d) (map (λ e. item_of rows e) (map (λ (x : Deep Item). x k) xs)) ≡ map (λ (z : Deep Item). z d) zs
    items = nested Items (λ x. x k) (λ e. item_of rows e) (λ x. x d) (λ z. z d) (λ x y z h. h k d)

    keys : (xs ys zs : List (Deep Key)) → Alike Keys xs ys zs → map (λ (x : Deep Key). x d) (map (λ e. key_of rows e) (map (λ (x : Deep Key). x k) xs)) ≡ map (λ (z : Deep Key). z d) zs
    keys = nested Keys (λ x. x k) (λ e. key_of rows e) (λ x. x d) (λ z. z d) (λ x y z h. h k d)

    froms : (xs ys zs : List (Deep FromItem)) → Alike Froms xs ys zs → map (λ (x : Deep FromItem). x d) (map (λ e. from_of rows e) (map (λ (x : Deep FromItem). x k) xs)) ≡ map (λ (z : Deep FromItem). z d) zs
    froms = nested Froms (λ x. x k) (λ e. from_of rows e) (λ x. x d) (λ z. z d) (λ x y z h. h k d)

    selects : (xs ys zs : List (Deep Select)) → Alike Selects xs ys zs → map (λ (x : Deep Select). x d) (map (λ e. select_of rows e) (map (λ (x : Deep Select). x k) xs)) ≡ map (λ (z : Deep Select). z d) zs
    selects = nested Selects (λ x. x k) (λ e. select_of rows e) (λ x. x d) (λ z. z d) (λ x y z h. h k d)

    recursives : (x y z : Option (Deep Recursive)) → AlikeOption Recursives x y z → option_map (λ (x : Deep Recursive). x d) (option_map (λ e. recursive_of rows e) (option_map (λ (x : Deep Recursive). x k) x)) ≡ option_map (λ (z : Deep Recursive). z d) z
    recursives = maybe Recursives (λ x. x k) (λ e. recursive_of rows e) (λ x. x d) (λ z. z d) (λ x y z h. h k d)

  abbrev there : ℕ → Deep Expr → Expr
  there d r = r d

  -- ---- the steps

  steps : IsKept first both both relation
  steps =
      record {
        no_expr = λ k d. refl;
        no_query = λ k d. ap (λ (r : Deep Query). r d) (eq.of_query rows []);
        int = λ n k d. ap (there d) (eq.of_cast rows (expr.Int n) (literal_type n));
        str = λ t k d. ap (there d) (eq.of_cast rows (expr.Str t) ty.Text);
        bool = λ v k d. ap (there d) (eq.of_cast rows (expr.Bool v) ty.Boolean);
        null = λ k d. refl;
        named = λ t k d. refl;
        qualified = λ t s k d. refl;
        slot = λ i k d. refl;
        column = λ c k d. refl;
        param = λ i t k d. refl;
        neg = λ x y z h k d. ap (there d) (eq.of_neg rows (x k)) ∙ ap expr.Neg (h k d);
        neg_small = λ x y z h k d. ap (there d) (eq.of_negsmall rows (x k)) ∙ ap expr.NegSmall (h k d);
        not = λ x y z h k d. ap (there d) (eq.of_not rows (x k)) ∙ ap expr.Not (h k d);
        is = λ x y z t v h k d. ap (there d) (eq.of_is rows (x k) t v) ∙ ap (λ e. expr.Is e t v) (h k d);
        chain = λ x y z xs ys zs h hs k d.
            ap (there d) (eq.of_chain rows (x k) (map (λ l. (l.0, l.1 k)) xs)) ∙ (λ i. expr.Chain (h k d i) (links k d xs ys zs hs i));
        compare = λ op x₁ x₂ y₁ y₂ z₁ z₂ h₁ h₂ k d. ap (there d) (eq.of_compare rows op (x₁ k) (x₂ k)) ∙ (λ i. expr.Compare op (h₁ k d i) (h₂ k d i));
        between = λ v x₁ x₂ x₃ y₁ y₂ y₃ z₁ z₂ z₃ h₁ h₂ h₃ k d.
            ap (there d) (eq.of_between rows v (x₁ k) (x₂ k) (x₃ k)) ∙ (λ i. expr.Between v (h₁ k d i) (h₂ k d i) (h₃ k d i));
        one_of = λ v x y z xs ys zs h hs k d.
            ap (there d) (eq.of_oneof rows v (x k) (map (λ e. e k) xs)) ∙ (λ i. expr.OneOf v (h k d i) (exprs k d xs ys zs hs i));
        cast = λ x y z t h k d. ap (there d) (eq.of_cast rows (x k) t) ∙ ap (λ e. expr.Cast e t) (h k d);
        cases = λ xs ys zs x y z hs h k d.
            ap (there d) (eq.of_cases rows (map (λ a. (a.0 k, a.1 k)) xs) (option_map (λ e. e k) x)) ∙ (λ i. expr.Cases (arms k d xs ys zs hs i) (option k d x y z h i));
        call = λ name xs ys zs hs k d. ap (there d) (eq.of_call rows name (map (λ e. e k) xs)) ∙ ap (expr.Call name) (exprs k d xs ys zs hs);
        count_rows = λ k d. refl;
        scalar = λ x y z h k d. ap (there d) (eq.of_scalar rows (x k)) ∙ ap expr.Scalar (h k d);
        exists = λ x y z h k d. ap (there d) (eq.of_exists rows (x k)) ∙ ap expr.Exists (h k d);
        table = λ name k d. refl;
        sub = λ x y z lateral h k d. ap (λ (r : Deep Source). r d) (eq.of_sub rows (x k) lateral) ∙ ap (λ q. source.Sub q lateral) (h k d);
        from = λ x y z alias columns h k d. ap (λ s. roll-FromItem (record { source = s; alias = alias; columns = columns })) (h k d);
        item = λ x y z alias h k d. ap (λ e. roll-Item (record { expr = e; alias = alias })) (h k d);
        key = λ x y z descending h k d. ap (λ e. roll-Key (record { expr = e; descending = descending })) (h k d);
        select = λ l₁ l₂ l₃ f₁ f₂ f₃ w₁ w₂ w₃ o₁ o₂ o₃ m₁ m₂ m₃ hl hf hw ho hm k d.
            ap (λ (r : Deep Select). r d) (eq.of_select rows (map (λ x. x (suc k)) l₁) (map (λ x. x (suc k)) f₁) (option_map (λ x. x (suc k)) w₁) (map (λ x. x (suc k)) o₁) (option_map (λ x. x (suc k)) m₁))
            ∙ (λ i. roll-Select (record {
              list = items (suc k) (suc d) l₁ l₂ l₃ hl i;
              from = froms (suc k) (suc d) f₁ f₂ f₃ hf i;
              filter = option (suc k) (suc d) w₁ w₂ w₃ hw i;
              order = keys (suc k) (suc d) o₁ o₂ o₃ ho i;
              limit = option (suc k) (suc d) m₁ m₂ m₃ hm i;
            }));
        recursive = λ name columns xs ys zs x y z hs h k d.
            ap (λ (r : Deep Recursive). r d) (eq.of_recursive rows name columns (map (λ s. s k) xs) (x k))
            ∙ (λ i. roll-Recursive (record { name = name; columns = columns; first = selects k d xs ys zs hs i; second = h k d i }));
        query = λ x y z xs ys zs h hs k d.
            ap (λ (r : Deep Query). r d) (eq.query_roll rows (option_map (λ r. r k) x) (map (λ s. s k) xs))
            ∙ (λ i. roll-Query (record { recursive = recursives k d x y z h i; selects = selects k d xs ys zs hs i }));
      }

  pub fused : (e : Expr) (k d : ℕ) → expr_of rows (expr_of first e k) d ≡ expr_of both e d
  fused e k d = expr_related first both both relation steps e k d
