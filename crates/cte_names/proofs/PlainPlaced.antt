-- A function's expression as a query has it, without its marks: so is the expression without its marks as a query has it.
use Rattle.std.proofs.Common.{◌≡◌, refl, ap, ◌∙◌, ℕ, List, [], ◌∷◌, map, Option, option_map}
use Rattle.away_values.specs.declared.operators.ChainOp.{ChainOp}
use Rattle.away_trees.specs.declared.queries.Expr.{Expr}
use Rattle.away_trees.specs.declared.queries.Expr.TheVariants as expr
use Rattle.away_trees.specs.declared.queries.Expr.TheOpen as ex
use Rattle.away_trees.specs.declared.queries.Select.{Select}
use Rattle.away_trees.specs.Algebra.{Algebra, expr_of, item_of, key_of, source_of, from_of, select_of, recursive_of, query_of}
use Rattle.away_trees.proofs.Equations as eq
use Rattle.elaboration.specs.Erasing.{erasing, erased, plain_link}
use Rattle.elaboration.specs.Marks.{plain_op}
use Rattle.elaboration_law.specs.Blind.{IsBlind}
use Rattle.elaboration_law.proofs.Joint.{Keeps, expr_related}
use Rattle.elaboration_law.proofs.Plain.{list_is, option_is}
use Rattle.sql_meaning.specs.Placed.{Deep, replacing, with_cast}
use Rattle.sql_meaning.proofs.Related.{Alike, AlikeOption, AlikeLink, AlikeArm, Relation}
use Rattle.cte_names.proofs.PlacedParts.{plain_twice}
use Rattle.cte_names.proofs.Standing.{placing}

abbrev Link : Type 0
Link = ChainOp × Deep Expr

abbrev with_mark : ℕ → Link → ChainOp × Expr
with_mark d l = (l.0, l.1 d)

abbrev without_mark : ℕ → Link → ChainOp × Expr
without_mark d l = (plain_op l.0, l.1 d)

module _ (leaf : ℕ → ℕ → Expr) where
  abbrev P : Algebra
  P = placing leaf

  -- with the marks
  abbrev B : Algebra
  B = replacing leaf with_cast

  -- ---- it makes no difference between operations of 32 bits and of 64

  twice : (d : ℕ) (links : List Link) → map (without_mark d) (map plain_link links) ≡ map (without_mark d) links
  twice d [] = refl
  twice d (l ∷ links) = λ i. (plain_twice l.0 i, l.1 d) ∷ twice d links i

  pub placing_blind : IsBlind P
  placing_blind = record { neg = λ x. refl; chain = λ x links i d. expr.Chain (x d) (twice d links i) }

  -- ---- the tree without its marks, in place

  once : (d : ℕ) (links : List Link) → map (with_mark d) (map plain_link links) ≡ map (without_mark d) links
  once d [] = refl
  once d (l ∷ links) = ap (λ xs. without_mark d l ∷ xs) (once d links)

  abbrev relation : Relation P erasing P
  relation = record {
    Exprs = λ x z w. expr_of B z ≡ x;
    Sources = λ x z w. source_of B z ≡ x;
    Froms = λ x z w. from_of B z ≡ x;
    Items = λ x z w. item_of B z ≡ x;
    Keys = λ x z w. key_of B z ≡ x;
    Queries = λ x z w. query_of B z ≡ x;
    Recursives = λ x z w. recursive_of B z ≡ x;
    Selects = λ x z w. select_of B z ≡ x;
  }

  abbrev Exprs : Deep Expr → Expr → Deep Expr → Type 0
  Exprs x z w = expr_of B z ≡ x

  exprs_are : (xs : List (Deep Expr)) (zs : List Expr) (ws : List (Deep Expr)) → Alike Exprs xs zs ws → map (λ e. expr_of B e) zs ≡ xs
  exprs_are = list_is Exprs (λ e. expr_of B e) (λ x z w r. r)

  optional_is : (x : Option (Deep Expr)) (z : Option Expr) (w : Option (Deep Expr)) → AlikeOption Exprs x z w → option_map (λ e. expr_of B e) z ≡ x
  optional_is = option_is Exprs (λ e. expr_of B e) (λ x z w r. r)

  links_are : (xs : List Link) (zs : List (ChainOp × Expr)) (ws : List Link) → Alike (AlikeLink Exprs) xs zs ws → map (λ l. eq.link_of B l) (map plain_link zs) ≡ map plain_link xs
  links_are [] [] [] r = refl
  links_are (x ∷ xs) (z ∷ zs) (w ∷ ws) r = λ i. (plain_op (r.0.0 i), r.0.2 i) ∷ links_are xs zs ws r.1 i
  links_are _ _ _ r = absurd r

  arms_are : (xs : List (Deep Expr × Deep Expr)) (zs : List (Expr × Expr)) (ws : List (Deep Expr × Deep Expr)) → Alike (AlikeArm Exprs) xs zs ws → map (λ x. eq.arm_of B x) zs ≡ xs
  arms_are = list_is (AlikeArm Exprs) (λ x. eq.arm_of B x) (λ x z w r i. (r.0 i, r.1 i))

  abbrev Selects : Deep Select → Select → Deep Select → Type 0
  Selects x z w = select_of B z ≡ x

  selects_are : (xs : List (Deep Select)) (zs : List Select) (ws : List (Deep Select)) → Alike Selects xs zs ws → map (λ e. select_of B e) zs ≡ xs
  selects_are = list_is Selects (λ e. select_of B e) (λ x z w r. r)

  steps : Keeps P erasing P relation
  steps = record {
    int = λ n. refl;
    str = λ t. refl;
    bool = λ v. refl;
    null = refl;
    named = λ t. refl;
    dotted = λ t s. refl;
    slot = λ i. refl;
    column = λ c. refl;
    param = λ i t. refl;
    neg = λ x z w k. eq.of_neg B z ∙ (λ i. P.expr (ex.Neg (k i)));
    neg_small = λ x z w k. eq.of_neg B z ∙ (λ i. P.expr (ex.Neg (k i)));
    not = λ x z w k. eq.of_not B z ∙ (λ i. P.expr (ex.Not (k i)));
    is = λ x z w test negative k. eq.of_is B z test negative ∙ (λ i. P.expr (ex.Is (k i) test negative));
    chain = λ x z w xs zs ws k r. eq.of_chain B z (map plain_link zs) ∙ (λ i. B.expr (ex.Chain (k i) (links_are xs zs ws r i))) ∙ (λ i d. expr.Chain (x d) (once d xs i));
    compare = λ op x₁ x₂ z₁ z₂ w₁ w₂ k₁ k₂. eq.of_compare B op z₁ z₂ ∙ (λ i. P.expr (ex.Compare op (k₁ i) (k₂ i)));
    between = λ v x₁ x₂ x₃ z₁ z₂ z₃ w₁ w₂ w₃ k₁ k₂ k₃. eq.of_between B v z₁ z₂ z₃ ∙ (λ i. P.expr (ex.Between v (k₁ i) (k₂ i) (k₃ i)));
    one_of = λ v x z w xs zs ws k r. eq.of_oneof B v z zs ∙ (λ i. P.expr (ex.OneOf v (k i) (exprs_are xs zs ws r i)));
    cast = λ x z w t k. eq.of_cast B z t ∙ (λ i. P.expr (ex.Cast (k i) t));
    cases = λ xs zs ws x z w r k. eq.of_cases B zs z ∙ (λ i. P.expr (ex.Cases (arms_are xs zs ws r i) (optional_is x z w k i)));
    call = λ name xs zs ws r. eq.of_call B name zs ∙ (λ i. P.expr (ex.Call name (exprs_are xs zs ws r i)));
    count_rows = refl;
    scalar = λ x z w k. eq.of_scalar B z ∙ (λ i. P.expr (ex.Scalar (k i)));
    exists = λ x z w k. eq.of_exists B z ∙ (λ i. P.expr (ex.Exists (k i)));
    table = λ name. refl;
    sub = λ x z w lateral k. eq.of_sub B z lateral ∙ (λ i. P.source (ex.Sub (k i) lateral));
    from = λ x z w alias columns k i. P.from (record { source = k i; alias = alias; columns = columns });
    item = λ x z w alias k i. P.item (record { expr = k i; alias = alias });
    key = λ x z w descending k i. P.key (record { expr = k i; descending = descending });
    select = λ l₁ l₂ l₃ f₁ f₂ f₃ w₁ w₂ w₃ o₁ o₂ o₃ m₁ m₂ m₃ lr fr wr kr mr.
        eq.of_select B l₂ f₂ w₂ o₂ m₂
        ∙ (λ i. P.select (record {
          list = list_is (λ x z w. item_of B z ≡ x) (λ e. item_of B e) (λ x z w r. r) l₁ l₂ l₃ lr i;
          from = list_is (λ x z w. from_of B z ≡ x) (λ e. from_of B e) (λ x z w r. r) f₁ f₂ f₃ fr i;
          filter = optional_is w₁ w₂ w₃ wr i;
          order = list_is (λ x z w. key_of B z ≡ x) (λ e. key_of B e) (λ x z w r. r) o₁ o₂ o₃ kr i;
          limit = optional_is m₁ m₂ m₃ mr i;
        }));
    recursive = λ name columns xs zs ws x z w r k.
        eq.of_recursive B name columns zs z ∙ (λ i. P.recursive (record { name = name; columns = columns; first = selects_are xs zs ws r i; second = k i }));
    query = λ x z w xs zs ws k r.
        eq.query_roll B z zs
        ∙ (λ i. P.query (record {
          recursive = option_is (λ x z w. recursive_of B z ≡ x) (λ e. recursive_of B e) (λ x z w r. r) x z w k i;
          selects = selects_are xs zs ws r i;
        }));
  }

  pub plain_placed : (e : Expr) → expr_of B (erased e) ≡ expr_of P e
  unfolding erased
  plain_placed e = expr_related P erasing P relation steps e
