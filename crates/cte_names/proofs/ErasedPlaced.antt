-- A function's expression as a query has it, then without its marks: it is the expression in place without its marks.
use Rattle.std.proofs.Common.{◌≡◌, refl, ap, sym, ◌∙◌, ℕ, suc, List, [], ◌∷◌, map, Option, Some, None, option_map}
use Rattle.away_values.specs.declared.operators.ChainOp.{ChainOp}
use Rattle.away_values.specs.declared.types.Ty.TheVariants as ty
use Rattle.away_values.specs.Operators.{literal_type}
use Rattle.away_trees.specs.declared.queries.Expr.{Expr}
use Rattle.away_trees.specs.declared.queries.Expr.TheVariants as expr
use Rattle.away_trees.specs.declared.queries.Expr.TheViews.{roll-Item, roll-FromItem, roll-Key, roll-Select, roll-Recursive, roll-Query}
use Rattle.away_trees.specs.declared.queries.FromItem.{FromItem}
use Rattle.away_trees.specs.declared.queries.Item.{Item}
use Rattle.away_trees.specs.declared.queries.Key.{Key}
use Rattle.away_trees.specs.declared.queries.Query.{Query}
use Rattle.away_trees.specs.declared.queries.Recursive.{Recursive}
use Rattle.away_trees.specs.declared.queries.Select.{Select}
use Rattle.away_trees.specs.declared.queries.Source.{Source}
use Rattle.away_trees.specs.declared.queries.Source.TheVariants as source
use Rattle.away_trees.specs.Algebra.{Algebra, expr_of, item_of, key_of, source_of, from_of, select_of, recursive_of, query_of}
use Rattle.away_trees.proofs.Equations as eq
use Rattle.elaboration.specs.Erasing.{erasing, erased, plain_link}
use Rattle.elaboration.specs.Marks.{plain_op}
use Rattle.elaboration_law.proofs.Joint.{Keeps, expr_related}
use Rattle.sql_meaning.specs.Placed.{Deep, replacing, replaced, with_cast}
use Rattle.sql_meaning.proofs.Related.{Alike, AlikeOption, AlikeLink, AlikeArm, Relation}
use Rattle.cte_names.proofs.Standing.{placing}

abbrev Link : Type 0
Link = ChainOp × Deep Expr

abbrev Arm : Type 0
Arm = Deep Expr × Deep Expr

-- the same one after the other
module _ {X Y Z C : Type 0} (R : Deep X → Deep Y → Deep Z → Type 0) (f : X → C) (g : Deep Y → C) (d : ℕ) (go : (x : Deep X) (y : Deep Y) (z : Deep Z) → R x y z → f (x d) ≡ g y) where
  maps : (xs : List (Deep X)) (ys : List (Deep Y)) (zs : List (Deep Z)) → Alike R xs ys zs → map f (map (λ x. x d) xs) ≡ map g ys
  maps [] [] [] r = refl
  maps (x ∷ xs) (y ∷ ys) (z ∷ zs) r = λ i. go x y z r.0 i ∷ maps xs ys zs r.1 i
  maps _ _ _ r = absurd r

  maybe : (x : Option (Deep X)) (y : Option (Deep Y)) (z : Option (Deep Z)) → AlikeOption R x y z → option_map f (option_map (λ x. x d) x) ≡ option_map g y
  maybe None None None r = refl
  maybe (Some x) (Some y) (Some z) r = ap Some (go x y z r)
  maybe _ _ _ r = absurd r

module _ (leaf : ℕ → ℕ → Expr) (leaf_plain : (d i : ℕ) → expr_of erasing (leaf d i) ≡ leaf d i) where
  abbrev P : Algebra
  P = placing leaf

  -- with the marks
  abbrev B : Algebra
  B = replacing leaf with_cast

  abbrev plain : Expr → Expr
  plain e = expr_of erasing e

  abbrev Exprs : Deep Expr → Deep Expr → Deep Expr → Type 0
  Exprs x y z = (d : ℕ) → plain (x d) ≡ y d

  abbrev Sources : Deep Source → Deep Source → Deep Source → Type 0
  Sources x y z = (d : ℕ) → source_of erasing (x d) ≡ y d

  abbrev Froms : Deep FromItem → Deep FromItem → Deep FromItem → Type 0
  Froms x y z = (d : ℕ) → from_of erasing (x d) ≡ y d

  abbrev Items : Deep Item → Deep Item → Deep Item → Type 0
  Items x y z = (d : ℕ) → item_of erasing (x d) ≡ y d

  abbrev Keys : Deep Key → Deep Key → Deep Key → Type 0
  Keys x y z = (d : ℕ) → key_of erasing (x d) ≡ y d

  abbrev Queries : Deep Query → Deep Query → Deep Query → Type 0
  Queries x y z = (d : ℕ) → query_of erasing (x d) ≡ y d

  abbrev Recursives : Deep Recursive → Deep Recursive → Deep Recursive → Type 0
  Recursives x y z = (d : ℕ) → recursive_of erasing (x d) ≡ y d

  abbrev Selects : Deep Select → Deep Select → Deep Select → Type 0
  Selects x y z = (d : ℕ) → select_of erasing (x d) ≡ y d

  abbrev relation : Relation B P P
  relation = record { Exprs = Exprs; Sources = Sources; Froms = Froms; Items = Items; Keys = Keys; Queries = Queries; Recursives = Recursives; Selects = Selects }

  -- ---- lists of parts

  exprs_are : (d : ℕ) (xs ys zs : List (Deep Expr)) → Alike Exprs xs ys zs → map plain (map (λ x. x d) xs) ≡ map (λ y. y d) ys
  exprs_are d = maps Exprs plain (λ y. y d) d (λ x y z r. r d)

  optional_is : (d : ℕ) (x y z : Option (Deep Expr)) → AlikeOption Exprs x y z → option_map plain (option_map (λ x. x d) x) ≡ option_map (λ y. y d) y
  optional_is d = maybe Exprs plain (λ y. y d) d (λ x y z r. r d)

  links_are : (d : ℕ) (xs ys zs : List Link) → Alike (AlikeLink Exprs) xs ys zs
      → map plain_link (map (λ l. eq.link_of erasing l) (map (λ (l : Link). (l.0, l.1 d)) xs)) ≡ map (λ (l : Link). (plain_op l.0, l.1 d)) ys
  links_are d [] [] [] r = refl
  links_are d (x ∷ xs) (y ∷ ys) (z ∷ zs) r = λ i. (plain_op (sym r.0.0 i), r.0.2 d i) ∷ links_are d xs ys zs r.1 i
  links_are d _ _ _ r = absurd r

  arms_are : (d : ℕ) (xs ys zs : List Arm) → Alike (AlikeArm Exprs) xs ys zs → map (λ x. eq.arm_of erasing x) (map (λ (a : Arm). (a.0 d, a.1 d)) xs) ≡ map (λ (a : Arm). (a.0 d, a.1 d)) ys
  arms_are d [] [] [] r = refl
  arms_are d (x ∷ xs) (y ∷ ys) (z ∷ zs) r = λ i. (r.0.0 d i, r.0.1 d i) ∷ arms_are d xs ys zs r.1 i
  arms_are d _ _ _ r = absurd r

  selects_are : (d : ℕ) (xs ys zs : List (Deep Select)) → Alike Selects xs ys zs → map (λ x. select_of erasing x) (map (λ x. x d) xs) ≡ map (λ y. y d) ys
  selects_are d = maps Selects (λ x. select_of erasing x) (λ y. y d) d (λ x y z r. r d)

  -- ---- all steps

  steps : Keeps B P P relation
  steps = record {
    int = λ n d. eq.of_cast erasing (expr.Int n) (literal_type n);
    str = λ t d. eq.of_cast erasing (expr.Str t) ty.Text;
    bool = λ v d. eq.of_cast erasing (expr.Bool v) ty.Boolean;
    null = λ d. refl;
    named = λ t d. refl;
    dotted = λ t s d. refl;
    slot = λ i d. leaf_plain d i;
    column = λ c d. refl;
    param = λ i t d. refl;
    neg = λ x y z k d. eq.of_neg erasing (x d) ∙ ap (λ e. expr.Neg e) (k d);
    neg_small = λ x y z k d. eq.of_negsmall erasing (x d) ∙ ap (λ e. expr.Neg e) (k d);
    not = λ x y z k d. eq.of_not erasing (x d) ∙ ap (λ e. expr.Not e) (k d);
    is = λ x y z test negative k d. eq.of_is erasing (x d) test negative ∙ ap (λ e. expr.Is e test negative) (k d);
    chain = λ x y z xs ys zs k r d. eq.of_chain erasing (x d) (map (λ (l : Link). (l.0, l.1 d)) xs) ∙ (λ i. expr.Chain (k d i) (links_are d xs ys zs r i));
    compare = λ op x₁ x₂ y₁ y₂ z₁ z₂ k₁ k₂ d. eq.of_compare erasing op (x₁ d) (x₂ d) ∙ (λ i. expr.Compare op (k₁ d i) (k₂ d i));
    between = λ v x₁ x₂ x₃ y₁ y₂ y₃ z₁ z₂ z₃ k₁ k₂ k₃ d. eq.of_between erasing v (x₁ d) (x₂ d) (x₃ d) ∙ (λ i. expr.Between v (k₁ d i) (k₂ d i) (k₃ d i));
    one_of = λ v x y z xs ys zs k r d. eq.of_oneof erasing v (x d) (map (λ x. x d) xs) ∙ (λ i. expr.OneOf v (k d i) (exprs_are d xs ys zs r i));
    cast = λ x y z t k d. eq.of_cast erasing (x d) t ∙ ap (λ e. expr.Cast e t) (k d);
    cases = λ xs ys zs x y z r k d. eq.of_cases erasing (map (λ (a : Arm). (a.0 d, a.1 d)) xs) (option_map (λ x. x d) x) ∙ (λ i. expr.Cases (arms_are d xs ys zs r i) (optional_is d x y z k i));
    call = λ name xs ys zs r d. eq.of_call erasing name (map (λ x. x d) xs) ∙ ap (λ es. expr.Call name es) (exprs_are d xs ys zs r);
    count_rows = λ d. refl;
    scalar = λ x y z k d. eq.of_scalar erasing (x d) ∙ ap (λ q. expr.Scalar q) (k d);
    exists = λ x y z k d. eq.of_exists erasing (x d) ∙ ap (λ q. expr.Exists q) (k d);
    table = λ name d. refl;
    sub = λ x y z lateral k d. eq.of_sub erasing (x d) lateral ∙ ap (λ q. source.Sub q lateral) (k d);
    from = λ x y z alias columns k d. ap (λ s. roll-FromItem (record { source = s; alias = alias; columns = columns })) (k d);
    item = λ x y z alias k d. ap (λ e. roll-Item (record { expr = e; alias = alias })) (k d);
    key = λ x y z descending k d. ap (λ e. roll-Key (record { expr = e; descending = descending })) (k d);
    select = λ l₁ l₂ l₃ f₁ f₂ f₃ w₁ w₂ w₃ o₁ o₂ o₃ m₁ m₂ m₃ lr fr wr kr mr d.
        eq.of_select erasing (map (λ x. x (suc d)) l₁) (map (λ x. x (suc d)) f₁) (option_map (λ x. x (suc d)) w₁) (map (λ x. x (suc d)) o₁) (option_map (λ x. x (suc d)) m₁)
        ∙ (λ i. roll-Select (record {
          list = maps Items (λ x. item_of erasing x) (λ y. y (suc d)) (suc d) (λ x y z r. r (suc d)) l₁ l₂ l₃ lr i;
          from = maps Froms (λ x. from_of erasing x) (λ y. y (suc d)) (suc d) (λ x y z r. r (suc d)) f₁ f₂ f₃ fr i;
          filter = optional_is (suc d) w₁ w₂ w₃ wr i;
          order = maps Keys (λ x. key_of erasing x) (λ y. y (suc d)) (suc d) (λ x y z r. r (suc d)) o₁ o₂ o₃ kr i;
          limit = optional_is (suc d) m₁ m₂ m₃ mr i;
        }));
    recursive = λ name columns xs ys zs x y z r k d.
        eq.of_recursive erasing name columns (map (λ s. s d) xs) (x d) ∙ (λ i. roll-Recursive (record { name = name; columns = columns; first = selects_are d xs ys zs r i; second = k d i }));
    query = λ x y z xs ys zs k r d.
        eq.query_roll erasing (option_map (λ r. r d) x) (map (λ s. s d) xs)
        ∙ (λ i. roll-Query (record {
          recursive = maybe Recursives (λ r. recursive_of erasing r) (λ y. y d) d (λ x y z r. r d) x y z k i;
          selects = selects_are d xs ys zs r i;
        }));
  }

  pub erased_placed : (d : ℕ) (e : Expr) → erased (replaced leaf with_cast d e) ≡ expr_of P e d
  unfolding erased
  erased_placed d e = expr_related B P P relation steps e d
