-- What makes no difference between operations of 32 bits and of 64 gives the same for a tree without marks.
use Rattle.std.proofs.Common.{◌≡◌, refl, ap, sym, ◌∙◌, List, [], ◌∷◌, map, Option, Some, None, option_map}
use Rattle.away_values.specs.declared.operators.ChainOp.{ChainOp}
use Rattle.away_trees.specs.declared.queries.Expr.{Expr}
use Rattle.away_trees.specs.declared.queries.Expr.TheOpen as ex
use Rattle.away_trees.specs.declared.queries.Select.{Select}
use Rattle.away_trees.specs.declared.queries.Query.{Query}
use Rattle.away_trees.specs.Algebra.{Algebra, expr_of, item_of, key_of, source_of, from_of, select_of, recursive_of, query_of}
use Rattle.away_trees.proofs.Equations as eq
use Rattle.sql_meaning.proofs.Related.{Alike, AlikeOption, AlikeLink, AlikeArm, Relation}
use Rattle.elaboration_law.proofs.Joint.{Keeps, expr_related, select_related, query_related}
use Rattle.elaboration_law.specs.Blind.{IsBlind}
use Rattle.elaboration.specs.Erasing.{erasing, erased, erased_select, erased_query, plain_link}
use Rattle.elaboration.specs.Marks.{plain_op}

-- ---- lists of parts

pub list_is : {X Z W : Type 0} (R : X → Z → W → Type 0) (f : Z → X) → ((x : X) (z : Z) (w : W) → R x z w → f z ≡ x) → (xs : List X) (zs : List Z) (ws : List W) → Alike R xs zs ws → map f zs ≡ xs
list_is R f go [] [] [] r = refl
list_is R f go (x ∷ xs) (z ∷ zs) (w ∷ ws) r = λ i. go x z w r.0 i ∷ list_is R f go xs zs ws r.1 i
list_is R f go _ _ _ r = absurd r

pub option_is : {X Z W : Type 0} (R : X → Z → W → Type 0) (f : Z → X) → ((x : X) (z : Z) (w : W) → R x z w → f z ≡ x) → (x : Option X) (z : Option Z) (w : Option W) → AlikeOption R x z w → option_map f z ≡ x
option_is R f go None None None r = refl
option_is R f go (Some x) (Some z) (Some w) r = ap Some (go x z w r)
option_is R f go _ _ _ r = absurd r

module _ (a : Algebra) (blind : IsBlind a) where
  abbrev relation : Relation a erasing a
  relation =
      record {
        Exprs = λ x z w. expr_of a z ≡ x;
        Sources = λ x z w. source_of a z ≡ x;
        Froms = λ x z w. from_of a z ≡ x;
        Items = λ x z w. item_of a z ≡ x;
        Keys = λ x z w. key_of a z ≡ x;
        Queries = λ x z w. query_of a z ≡ x;
        Recursives = λ x z w. recursive_of a z ≡ x;
        Selects = λ x z w. select_of a z ≡ x;
      }

  abbrev Exprs : a.AnExpr → Expr → a.AnExpr → Type 0
  Exprs x z w = expr_of a z ≡ x

  exprs_are : (xs : List a.AnExpr) (zs : List Expr) (ws : List a.AnExpr) → Alike Exprs xs zs ws → map (λ e. expr_of a e) zs ≡ xs
  exprs_are = list_is Exprs (λ e. expr_of a e) (λ x z w r. r)

  optional_is : (x : Option a.AnExpr) (z : Option Expr) (w : Option a.AnExpr) → AlikeOption Exprs x z w → option_map (λ e. expr_of a e) z ≡ x
  optional_is = option_is Exprs (λ e. expr_of a e) (λ x z w r. r)

  -- the links of the tree without marks
  links_are : (xs : List (ChainOp × a.AnExpr)) (zs : List (ChainOp × Expr)) (ws : List (ChainOp × a.AnExpr)) → Alike (AlikeLink Exprs) xs zs ws → map (λ l. eq.link_of a l) (map plain_link zs) ≡ map plain_link xs
  links_are [] [] [] r = refl
  links_are (x ∷ xs) (z ∷ zs) (w ∷ ws) r = λ i. (plain_op (r.0.0 i), r.0.2 i) ∷ links_are xs zs ws r.1 i
  links_are _ _ _ r = absurd r

  arms_are : (xs : List (a.AnExpr × a.AnExpr)) (zs : List (Expr × Expr)) (ws : List (a.AnExpr × a.AnExpr)) → Alike (AlikeArm Exprs) xs zs ws → map (λ x. eq.arm_of a x) zs ≡ xs
  arms_are = list_is (AlikeArm Exprs) (λ x. eq.arm_of a x) (λ x z w r i. (r.0 i, r.1 i))

  steps : Keeps a erasing a relation
  steps =
      record {
        int = λ n. refl;
        str = λ t. refl;
        bool = λ v. refl;
        null = refl;
        named = λ t. refl;
        dotted = λ t s. refl;
        slot = λ i. refl;
        column = λ c. refl;
        param = λ i t. refl;
        neg = λ x z w k. eq.of_neg a z ∙ (λ i. a.expr (ex.Neg (k i)));
        neg_small = λ x z w k. eq.of_neg a z ∙ (λ i. a.expr (ex.Neg (k i))) ∙ sym (blind.neg x);
        not = λ x z w k. eq.of_not a z ∙ (λ i. a.expr (ex.Not (k i)));
        is = λ x z w test negative k. eq.of_is a z test negative ∙ (λ i. a.expr (ex.Is (k i) test negative));
        chain = λ x z w xs zs ws k r. eq.of_chain a z (map plain_link zs) ∙ (λ i. a.expr (ex.Chain (k i) (links_are xs zs ws r i))) ∙ blind.chain x xs;
        compare = λ op x₁ x₂ z₁ z₂ w₁ w₂ k₁ k₂. eq.of_compare a op z₁ z₂ ∙ (λ i. a.expr (ex.Compare op (k₁ i) (k₂ i)));
        between = λ v x₁ x₂ x₃ z₁ z₂ z₃ w₁ w₂ w₃ k₁ k₂ k₃. eq.of_between a v z₁ z₂ z₃ ∙ (λ i. a.expr (ex.Between v (k₁ i) (k₂ i) (k₃ i)));
        one_of = λ v x z w xs zs ws k r. eq.of_oneof a v z zs ∙ (λ i. a.expr (ex.OneOf v (k i) (exprs_are xs zs ws r i)));
        cast = λ x z w t k. eq.of_cast a z t ∙ (λ i. a.expr (ex.Cast (k i) t));
        cases = λ xs zs ws x z w r k. eq.of_cases a zs z ∙ (λ i. a.expr (ex.Cases (arms_are xs zs ws r i) (optional_is x z w k i)));
        call = λ name xs zs ws r. eq.of_call a name zs ∙ (λ i. a.expr (ex.Call name (exprs_are xs zs ws r i)));
        count_rows = refl;
        scalar = λ x z w k. eq.of_scalar a z ∙ (λ i. a.expr (ex.Scalar (k i)));
        exists = λ x z w k. eq.of_exists a z ∙ (λ i. a.expr (ex.Exists (k i)));
        table = λ name. refl;
        sub = λ x z w lateral k. eq.of_sub a z lateral ∙ (λ i. a.source (ex.Sub (k i) lateral));
        from = λ x z w alias columns k i. a.from (record { source = k i; alias = alias; columns = columns });
        item = λ x z w alias k i. a.item (record { expr = k i; alias = alias });
        key = λ x z w descending k i. a.key (record { expr = k i; descending = descending });
        select = λ l₁ l₂ l₃ f₁ f₂ f₃ w₁ w₂ w₃ o₁ o₂ o₃ m₁ m₂ m₃ lr fr wr kr mr.
            eq.of_select a l₂ f₂ w₂ o₂ m₂
            ∙ (λ i. a.select (record {
              list = list_is (λ x z w. item_of a z ≡ x) (λ e. item_of a e) (λ x z w r. r) l₁ l₂ l₃ lr i;
              from = list_is (λ x z w. from_of a z ≡ x) (λ e. from_of a e) (λ x z w r. r) f₁ f₂ f₃ fr i;
              filter = optional_is w₁ w₂ w₃ wr i;
              order = list_is (λ x z w. key_of a z ≡ x) (λ e. key_of a e) (λ x z w r. r) o₁ o₂ o₃ kr i;
              limit = optional_is m₁ m₂ m₃ mr i;
            }));
        recursive = λ name columns xs zs ws x z w r k.
            eq.of_recursive a name columns zs z
            ∙ (λ i. a.recursive (record { name = name; columns = columns; first = list_is (λ x z w. select_of a z ≡ x) (λ e. select_of a e) (λ x z w r. r) xs zs ws r i; second = k i }));
        query = λ x z w xs zs ws k r.
            eq.query_roll a z zs
            ∙ (λ i. a.query (record { recursive = option_is (λ x z w. recursive_of a z ≡ x) (λ e. recursive_of a e) (λ x z w r. r) x z w k i; selects = list_is (λ x z w. select_of a z ≡ x) (λ e. select_of a e) (λ x z w r. r) xs zs ws r i }));
      }

  pub same_expr : (e : Expr) → expr_of a (erased e) ≡ expr_of a e
  unfolding erased
  same_expr e = expr_related a erasing a relation steps e

  pub same_select : (s : Select) → select_of a (erased_select s) ≡ select_of a s
  unfolding erased_select
  same_select s = select_related a erasing a relation steps s

  pub same_query : (q : Query) → query_of a (erased_query q) ≡ query_of a q
  unfolding erased_query
  same_query q = query_related a erasing a relation steps q
