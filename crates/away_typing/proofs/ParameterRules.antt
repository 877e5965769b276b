-- The parameters of a node, by its parts.
use Rattle.std.proofs.Common.{◌≡◌, refl, ap, sym, ◌∙◌, ℕ, ℤ, Bool, List, fold, map, Option, Some, None, option_map}
use Rattle.away_values.specs.declared.types.Ty.{Ty}
use Rattle.away_trees.specs.declared.queries.Col.{Col}
use Rattle.away_values.specs.declared.operators.ChainOp.{ChainOp}
use Rattle.away_values.specs.declared.operators.CmpOp.{CmpOp}
use Rattle.away_values.specs.declared.operators.IsTest.{IsTest}
use Rattle.away_trees.specs.declared.queries.Expr.{Expr}
use Rattle.away_trees.specs.declared.queries.Expr.TheVariants as expr
use Rattle.away_trees.specs.declared.queries.Source.TheVariants as source
use Rattle.away_trees.specs.declared.queries.FromItem.{FromItem}
use Rattle.away_trees.specs.declared.queries.Item.{Item}
use Rattle.away_trees.specs.declared.queries.Key.{Key}
use Rattle.away_trees.specs.declared.queries.Select.{Select}
use Rattle.away_trees.specs.declared.queries.Query.{Query}
use Rattle.away_trees.specs.declared.queries.Recursive.{Recursive}
use Rattle.away_trees.specs.declared.queries.Expr.TheViews.{out-Select, out-Query, out-Recursive, roll-out-Recursive}
use Rattle.away_trees.specs.Algebra.{expr_of, item_of, key_of, from_of, select_of, recursive_of}
use Rattle.away_trees.proofs.Equations as e
use Rattle.away_typing.specs.declared.params.Params.{Params}
use Rattle.away_typing.specs.Parameters as n
use Rattle.away_typing.specs.Parameters.{finding, taken, each, maybe}
use Rattle.away_typing.specs.ParameterLists.{with_expr, with_source, with_select, with_query, with_link, with_arm, with_item, with_key, with_part, with_maybe, with_terms}
use Rattle.away_names.proofs.NamingRules.{fold_map}

maybe_is : (p : Params) (o : Option Expr) → maybe (option_map (λ x. expr_of finding x) o) p ≡ with_maybe p o
unfolding with_expr
maybe_is p None = refl
maybe_is p (Some x) = refl

-- ---- expressions

pub int_is : (p : Params) (n : ℤ) → with_expr p (expr.Int n) ≡ p
unfolding with_expr
int_is p n = refl

pub str_is : (p : Params) (t : List ℕ) → with_expr p (expr.Str t) ≡ p
unfolding with_expr
str_is p t = refl

pub bool_is : (p : Params) (b : Bool) → with_expr p (expr.Bool b) ≡ p
unfolding with_expr
bool_is p b = refl

pub null_is : (p : Params) → with_expr p (expr.Null) ≡ p
unfolding with_expr
null_is p = refl

pub named_is : (p : Params) (n : List ℕ) → with_expr p (expr.Named n) ≡ p
unfolding with_expr
named_is p n = refl

pub qualified_is : (p : Params) (a n : List ℕ) → with_expr p (expr.Dotted a n) ≡ p
unfolding with_expr
qualified_is p a n = refl

pub slot_is : (p : Params) (i : ℕ) → with_expr p (expr.Slot i) ≡ p
unfolding with_expr
slot_is p i = refl

pub column_is : (p : Params) (c : Col) → with_expr p (expr.Column c) ≡ p
unfolding with_expr
column_is p c = refl

pub count_rows_is : (p : Params) → with_expr p (expr.CountRows) ≡ p
unfolding with_expr
count_rows_is p = refl

pub param_is : (p : Params) (i : ℕ) (ty : Ty) → with_expr p (expr.Param i ty) ≡ taken p (i, ty)
unfolding with_expr
param_is p i ty = refl

pub neg_is : (p : Params) (x : Expr) → with_expr p (expr.Neg x) ≡ with_expr p x
unfolding with_expr
neg_is p x = ap (λ f. f p) (e.of_neg finding x)

pub negsmall_is : (p : Params) (x : Expr) → with_expr p (expr.NegSmall x) ≡ with_expr p x
unfolding with_expr
negsmall_is p x = ap (λ f. f p) (e.of_negsmall finding x)

pub not_is : (p : Params) (x : Expr) → with_expr p (expr.Not x) ≡ with_expr p x
unfolding with_expr
not_is p x = ap (λ f. f p) (e.of_not finding x)

pub is_is : (p : Params) (x : Expr) (t : IsTest) (v : Bool) → with_expr p (expr.Is x t v) ≡ with_expr p x
unfolding with_expr
is_is p x t v = ap (λ f. f p) (e.of_is finding x t v)

pub cast_is : (p : Params) (x : Expr) (t : Ty) → with_expr p (expr.Cast x t) ≡ with_expr p x
unfolding with_expr
cast_is p x t = ap (λ f. f p) (e.of_cast finding x t)

pub compare_is : (p : Params) (op : CmpOp) (x y : Expr) → with_expr p (expr.Compare op x y) ≡ with_expr (with_expr p x) y
unfolding with_expr
compare_is p op x y = ap (λ f. f p) (e.of_compare finding op x y)

pub between_is : (p : Params) (v : Bool) (x y z : Expr) → with_expr p (expr.Between v x y z) ≡ with_expr (with_expr (with_expr p x) y) z
unfolding with_expr
between_is p v x y z = ap (λ f. f p) (e.of_between finding v x y z)

pub chain_is : (p : Params) (x : Expr) (ls : List (ChainOp × Expr)) → with_expr p (expr.Chain x ls) ≡ fold with_link (with_expr p x) ls
unfolding with_expr
chain_is p x ls = ap (λ f. f p) (e.of_chain finding x ls) ∙ fold_map _ _ _ ls

pub one_of_is : (p : Params) (v : Bool) (x : Expr) (es : List Expr) → with_expr p (expr.OneOf v x es) ≡ fold with_expr (with_expr p x) es
unfolding with_expr
one_of_is p v x es = ap (λ f. f p) (e.of_oneof finding v x es) ∙ fold_map _ _ _ es

pub call_is : (p : Params) (n : List ℕ) (es : List Expr) → with_expr p (expr.Call n es) ≡ fold with_expr p es
unfolding with_expr
call_is p n es = ap (λ f. f p) (e.of_call finding n es) ∙ fold_map _ _ _ es

pub cases_is : (p : Params) (as_ : List (Expr × Expr)) (o : Option Expr) → with_expr p (expr.Cases as_ o) ≡ with_maybe (fold with_arm p as_) o
unfolding with_expr
cases_is p as_ o =
    ap (λ f. f p) (e.of_cases finding as_ o)
    ∙ ap (λ q. maybe (option_map (λ x. expr_of finding x) o) q) (fold_map _ _ _ as_)
    ∙ maybe_is (fold with_arm p as_) o

pub scalar_is : (p : Params) (q : Query) → with_expr p (expr.Scalar q) ≡ with_query p q
unfolding with_expr with_query
scalar_is p q = ap (λ f. f p) (e.of_scalar finding q)

pub exists_is : (p : Params) (q : Query) → with_expr p (expr.Exists q) ≡ with_query p q
unfolding with_expr with_query
exists_is p q = ap (λ f. f p) (e.of_exists finding q)

pub ruleset expression_rules = (int_is, str_is, bool_is, null_is, named_is, qualified_is, slot_is, column_is, count_rows_is, param_is, neg_is, negsmall_is, not_is, is_is, cast_is, compare_is, between_is, chain_is, one_of_is, call_is, cases_is, scalar_is, exists_is)

-- ---- FROM, selects and queries

pub table_is : (p : Params) (n : List ℕ) → with_source p (source.Table n) ≡ p
unfolding with_source
table_is p n = refl

pub sub_is : (p : Params) (q : Query) (lateral : Bool) → with_source p (source.Sub q lateral) ≡ with_query p q
unfolding with_source with_query
sub_is p q lateral = ap (λ f. f p) (e.of_sub finding q lateral)

pub ruleset source_rules = (table_is, sub_is)

items_are : (p : Params) (xs : List Item) → each (map (λ x. item_of finding x) xs) p ≡ fold with_item p xs
unfolding with_expr
items_are p xs = fold_map _ _ _ xs

keys_are : (p : Params) (xs : List Key) → each (map (λ x. key_of finding x) xs) p ≡ fold with_key p xs
unfolding with_expr
keys_are p xs = fold_map _ _ _ xs

parts_are : (p : Params) (xs : List FromItem) → each (map (λ x. from_of finding x) xs) p ≡ fold with_part p xs
unfolding with_source
parts_are p xs = fold_map _ _ _ xs

selects_are : (p : Params) (xs : List Select) → each (map (λ x. select_of finding x) xs) p ≡ fold with_select p xs
unfolding with_select
selects_are p xs = fold_map _ _ _ xs

pub select_rule : (p : Params) (x : Select) →
    with_select p x
    ≡ with_maybe (fold with_key (with_maybe (fold with_part (fold with_item p (out-Select x).list) (out-Select x).from) (out-Select x).filter) (out-Select x).order) (out-Select x).limit
unfolding with_select
select_rule p x =
    ap (λ f. f p) (e.select_is finding x)
    ∙ maybe_is _ (out-Select x).limit
    ∙ ap (λ q. with_maybe q (out-Select x).limit)
    (keys_are _ (out-Select x).order
    ∙ ap (λ q. fold with_key q (out-Select x).order)
    (maybe_is _ (out-Select x).filter
    ∙ ap (λ q. with_maybe q (out-Select x).filter)
    (parts_are _ (out-Select x).from ∙ ap (λ q. fold with_part q (out-Select x).from) (items_are p (out-Select x).list))))

terms_is : (r : Recursive) → recursive_of finding r ≡ n.in_recursive (record { name = (out-Recursive r).name; columns = (out-Recursive r).columns; first = map (λ x. select_of finding x) (out-Recursive r).first; second = select_of finding (out-Recursive r).second })
terms_is r = ap (λ r. recursive_of finding r) (sym (roll-out-Recursive r)) ∙ e.of_recursive finding (out-Recursive r).name (out-Recursive r).columns (out-Recursive r).first (out-Recursive r).second

recursive_is : (p : Params) (r : Option Recursive) → maybe (option_map (λ r. recursive_of finding r) r) p ≡ with_terms p r
unfolding with_select
recursive_is p None = refl
recursive_is p (Some r) = ap (λ f. f p) (terms_is r) ∙ ap (λ q. select_of finding (out-Recursive r).second q) (selects_are p (out-Recursive r).first)

pub query_rule : (p : Params) (q : Query) → with_query p q ≡ fold with_select (with_terms p (out-Query q).recursive) (out-Query q).selects
unfolding with_query
query_rule p q = ap (λ f. f p) (e.query_is finding q) ∙ selects_are _ (out-Query q).selects ∙ ap (λ r. fold with_select r (out-Query q).selects) (recursive_is p (out-Query q).recursive)
