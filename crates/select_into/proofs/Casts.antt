-- A literal NULL in the list of a select means the same under a cast, and an item the same without its alias; and they read the same.
use Rattle.std.proofs.Common.{◌≡◌, refl, ap, sym, ◌∙◌, ℕ, false, List, [], ◌∷◌, map, Option, Some, None, option_map}
use Rattle.away_values.specs.declared.types.Ty.{Ty}
use Rattle.away_trees.specs.declared.queries.Expr.{Expr}
use Rattle.away_trees.specs.declared.queries.Expr.TheVariants as expr
use Rattle.away_trees.specs.declared.queries.Expr.TheOpen as ex
use Rattle.away_trees.specs.declared.queries.Expr.TheBlock as b
use Rattle.away_trees.specs.declared.queries.Item.{Item}
use Rattle.away_trees.specs.declared.queries.Select.{Select}
use Rattle.away_trees.specs.declared.queries.Expr.TheViews.{out-Item, out-Select}
use Rattle.away_trees.specs.Algebra.{Algebra, expr_of, item_of, from_of, key_of, select_of}
use Rattle.away_trees.proofs.Equations as eq
use Rattle.sql_meaning.specs.Context.{Context}
use Rattle.sql_meaning.specs.Meaning.{meaning, rows_of_select}
use Rattle.sql_meaning.specs.Reads.{reading}
use Rattle.sql_meaning.proofs.SelectRows.{null_cast}
use Rattle.select_into.specs.Wrapped.{null_as, typed, item_as, items_as, picked}

-- in every algebra where a cast of NULL is as NULL is, and an alias is nothing
module _ (a : Algebra) (h : (t : Ty) → a.expr (ex.Cast (a.expr ex.Null) t) ≡ a.expr ex.Null)
    (k : (x : a.AnExpr) (alias : Option (List ℕ)) → a.item (record { expr = x; alias = None }) ≡ a.item (record { expr = x; alias = alias })) where
  null_same : (t : Ty) (e : Expr) → expr_of a (null_as t e) ≡ expr_of a e
  null_same t b.Null = eq.of_cast a expr.Null t ∙ h t
  null_same t e = refl

  typed_same : (t : Option Ty) (e : Expr) → expr_of a (typed t e) ≡ expr_of a e
  typed_same None e = refl
  typed_same (Some t) e = null_same t e

  item_same : (t : Option Ty) (i : Item) → item_of a (item_as t i) ≡ item_of a i
  item_same t i =
      k (expr_of a (typed t (out-Item i).expr)) (out-Item i).alias
      ∙ ap (λ x. a.item (record { expr = x; alias = (out-Item i).alias })) (typed_same t (out-Item i).expr)

  items_same : (types : List Ty) (is : List Item) → map (λ i. item_of a i) (items_as types is) ≡ map (λ i. item_of a i) is
  items_same types [] = refl
  items_same [] (i ∷ is) = λ k. item_same None i k ∷ items_same [] is k
  items_same (t ∷ types) (i ∷ is) = λ k. item_same (Some t) i k ∷ items_same types is k

  pub picked_as : (types : List Ty) (s : Select) → select_of a (picked types s) ≡ select_of a s
  picked_as types s =
      let o = out-Select s in
      eq.of_select a (items_as types o.list) o.from o.filter o.order o.limit
      ∙ ap (λ (l : List a.AnItem). a.select (record { list = l; from = map (λ f. from_of a f) o.from; filter = option_map (λ e. expr_of a e) o.filter; order = map (λ k. key_of a k) o.order; limit = option_map (λ e. expr_of a e) o.limit })) (items_same types o.list)
      ∙ sym (eq.select_is a s)

pub picked_same : (types : List Ty) (s : Select) (cx : Context) → rows_of_select (picked types s) cx ≡ rows_of_select s cx
picked_same types s cx = ap (λ r. r cx) (picked_as meaning (λ t i. record { aggregates = false; value = λ cx. null_cast t i }) (λ x alias. refl) types s)

pub picked_reads : (types : List Ty) (s : Select) → select_of reading (picked types s) ≡ select_of reading s
picked_reads types s = picked_as reading (λ t. refl) (λ x alias. refl) types s
