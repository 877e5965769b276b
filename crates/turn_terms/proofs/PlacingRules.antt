-- An expression with others in place of its slots, by its parts.
use Rattle.std.proofs.Common.{◌≡◌, ℕ, suc, ◌+◌, ℤ, Bool, List, [], ◌∷◌, map, Option, Some, None, option_map, refl, sym, ap, ◌∙◌, arith}
use Rattle.away_values.specs.declared.types.Ty.{Ty}
use Rattle.away_values.specs.declared.types.Ty.TheVariants as ty
use Rattle.away_values.specs.Operators.{literal_type}
use Rattle.away_values.specs.declared.operators.ChainOp.{ChainOp}
use Rattle.away_values.specs.declared.operators.CmpOp.{CmpOp}
use Rattle.away_values.specs.declared.operators.IsTest.{IsTest}
use Rattle.away_trees.specs.declared.queries.Col.{Col}
use Rattle.away_trees.specs.declared.queries.Expr.{Expr}
use Rattle.away_trees.specs.declared.queries.Expr.TheVariants as expr
use Rattle.away_trees.specs.declared.queries.Expr.TheViews.{out-Select, out-Query, out-Recursive, roll-out-Recursive, roll-Select, roll-Query, roll-Recursive}
use Rattle.away_trees.specs.declared.queries.FromItem.{FromItem}
use Rattle.away_trees.specs.declared.queries.Item.{Item}
use Rattle.away_trees.specs.declared.queries.Key.{Key}
use Rattle.away_trees.specs.declared.queries.Query.{Query}
use Rattle.away_trees.specs.declared.queries.Recursive.{Recursive}
use Rattle.away_trees.specs.declared.queries.Select.{Select}
use Rattle.away_trees.specs.declared.queries.Source.{Source}
use Rattle.away_trees.specs.declared.queries.Source.TheVariants as source
use Rattle.away_trees.specs.Algebra.{expr_of, item_of, key_of, from_of, select_of, source_of, recursive_of, query_of}
use Rattle.away_trees.proofs.Equations as e
use Rattle.sql_meaning.specs.Placed.{Deep}
use Rattle.turn_terms.specs.declared.leaves.Leaves.{Leaves}
use Rattle.turn_terms.specs.Placing.{leaf_at, literal_at, placing, expr_in, source_in, select_in, recursive_in, query_in, link_in, arm_in, item_in, from_in, key_in, maybe_in, maybe_recursive_in}

-- ---- lists

exprs_are : (w : Leaves) (d : ℕ) (es : List Expr) → map (λ (x : Deep Expr). x d) (map (λ x. expr_of (placing w) x) es) ≡ map (expr_in w d) es
unfolding expr_in
exprs_are w d [] = refl
exprs_are w d (x ∷ es) = ap (λ ys. expr_of (placing w) x d ∷ ys) (exprs_are w d es)

links_are : (w : Leaves) (d : ℕ) (ls : List (ChainOp × Expr)) → map (λ (l : ChainOp × Deep Expr). (l.0, l.1 d)) (map (λ l. e.link_of (placing w) l) ls) ≡ map (link_in w d) ls
unfolding expr_in
links_are w d [] = refl
links_are w d (l ∷ ls) = ap (λ ys. (l.0, expr_of (placing w) l.1 d) ∷ ys) (links_are w d ls)

arms_are : (w : Leaves) (d : ℕ) (arms : List (Expr × Expr)) → map (λ (a : Deep Expr × Deep Expr). (a.0 d, a.1 d)) (map (λ a. e.arm_of (placing w) a) arms) ≡ map (arm_in w d) arms
unfolding expr_in
arms_are w d [] = refl
arms_are w d (a ∷ arms) = ap (λ ys. (expr_of (placing w) a.0 d, expr_of (placing w) a.1 d) ∷ ys) (arms_are w d arms)

maybe_is : (w : Leaves) (d : ℕ) (o : Option Expr) → option_map (λ (x : Deep Expr). x d) (option_map (λ x. expr_of (placing w) x) o) ≡ maybe_in w d o
unfolding expr_in
maybe_is w d None = refl
maybe_is w d (Some x) = refl

items_are : (w : Leaves) (d : ℕ) (xs : List Item) → map (λ (x : Deep Item). x d) (map (λ x. item_of (placing w) x) xs) ≡ map (item_in w d) xs
unfolding expr_in
items_are w d [] = refl
items_are w d (x ∷ xs) = ap (λ ys. item_of (placing w) x d ∷ ys) (items_are w d xs)

keys_are : (w : Leaves) (d : ℕ) (xs : List Key) → map (λ (x : Deep Key). x d) (map (λ x. key_of (placing w) x) xs) ≡ map (key_in w d) xs
unfolding expr_in
keys_are w d [] = refl
keys_are w d (x ∷ xs) = ap (λ ys. key_of (placing w) x d ∷ ys) (keys_are w d xs)

froms_are : (w : Leaves) (d : ℕ) (xs : List FromItem) → map (λ (x : Deep FromItem). x d) (map (λ x. from_of (placing w) x) xs) ≡ map (from_in w d) xs
unfolding source_in
froms_are w d [] = refl
froms_are w d (x ∷ xs) = ap (λ ys. from_of (placing w) x d ∷ ys) (froms_are w d xs)

selects_are : (w : Leaves) (d : ℕ) (xs : List Select) → map (λ (x : Deep Select). x d) (map (λ x. select_of (placing w) x) xs) ≡ map (select_in w d) xs
unfolding select_in
selects_are w d [] = refl
selects_are w d (x ∷ xs) = ap (λ ys. select_of (placing w) x d ∷ ys) (selects_are w d xs)

-- ---- expressions and sources

pub in_int : (w : Leaves) (d : ℕ) (n : ℤ) → expr_in w d (expr.Int n) ≡ literal_at w (literal_type n) (expr.Int n)
unfolding expr_in
in_int w d n = refl

pub in_str : (w : Leaves) (d : ℕ) (t : List ℕ) → expr_in w d (expr.Str t) ≡ literal_at w ty.Text (expr.Str t)
unfolding expr_in
in_str w d t = refl

pub in_bool : (w : Leaves) (d : ℕ) (v : Bool) → expr_in w d (expr.Bool v) ≡ literal_at w ty.Boolean (expr.Bool v)
unfolding expr_in
in_bool w d v = refl

pub in_null : (w : Leaves) (d : ℕ) → expr_in w d (expr.Null) ≡ expr.Null
unfolding expr_in
in_null w d = refl

pub in_named : (w : Leaves) (d : ℕ) (t : List ℕ) → expr_in w d (expr.Named t) ≡ expr.Named t
unfolding expr_in
in_named w d t = refl

pub in_qualified : (w : Leaves) (d : ℕ) (t c : List ℕ) → expr_in w d (expr.Dotted t c) ≡ expr.Dotted t c
unfolding expr_in
in_qualified w d t c = refl

pub in_slot : (w : Leaves) (d : ℕ) (i : ℕ) → expr_in w d (expr.Slot i) ≡ leaf_at w d i
unfolding expr_in
in_slot w d i = refl

pub in_column : (w : Leaves) (d : ℕ) (c : Col) → expr_in w d (expr.Column c) ≡ expr.Column c
unfolding expr_in
in_column w d c = refl

pub in_param : (w : Leaves) (d : ℕ) (i : ℕ) (t : Ty) → expr_in w d (expr.Param i t) ≡ expr.Param i t
unfolding expr_in
in_param w d i t = refl

pub in_count_rows : (w : Leaves) (d : ℕ) → expr_in w d (expr.CountRows) ≡ expr.CountRows
unfolding expr_in
in_count_rows w d = refl

pub in_neg : (w : Leaves) (d : ℕ) (x : Expr) → expr_in w d (expr.Neg x) ≡ expr.Neg (expr_in w d x)
unfolding expr_in
in_neg w d x = ap (λ (r : Deep Expr). r d) (e.of_neg (placing w) x)

pub in_neg_small : (w : Leaves) (d : ℕ) (x : Expr) → expr_in w d (expr.NegSmall x) ≡ expr.NegSmall (expr_in w d x)
unfolding expr_in
in_neg_small w d x = ap (λ (r : Deep Expr). r d) (e.of_negsmall (placing w) x)

pub in_not : (w : Leaves) (d : ℕ) (x : Expr) → expr_in w d (expr.Not x) ≡ expr.Not (expr_in w d x)
unfolding expr_in
in_not w d x = ap (λ (r : Deep Expr). r d) (e.of_not (placing w) x)

pub in_is : (w : Leaves) (d : ℕ) (x : Expr) (t : IsTest) (v : Bool) → expr_in w d (expr.Is x t v) ≡ expr.Is (expr_in w d x) t v
unfolding expr_in
in_is w d x t v = ap (λ (r : Deep Expr). r d) (e.of_is (placing w) x t v)

pub in_cast : (w : Leaves) (d : ℕ) (x : Expr) (t : Ty) → expr_in w d (expr.Cast x t) ≡ expr.Cast (expr_in w d x) t
unfolding expr_in
in_cast w d x t = ap (λ (r : Deep Expr). r d) (e.of_cast (placing w) x t)

pub in_compare : (w : Leaves) (d : ℕ) (op : CmpOp) (x y : Expr) → expr_in w d (expr.Compare op x y) ≡ expr.Compare op (expr_in w d x) (expr_in w d y)
unfolding expr_in
in_compare w d op x y = ap (λ (r : Deep Expr). r d) (e.of_compare (placing w) op x y)

pub in_between : (w : Leaves) (d : ℕ) (v : Bool) (x y z : Expr) → expr_in w d (expr.Between v x y z) ≡ expr.Between v (expr_in w d x) (expr_in w d y) (expr_in w d z)
unfolding expr_in
in_between w d v x y z = ap (λ (r : Deep Expr). r d) (e.of_between (placing w) v x y z)

pub in_chain : (w : Leaves) (d : ℕ) (x : Expr) (ls : List (ChainOp × Expr)) → expr_in w d (expr.Chain x ls) ≡ expr.Chain (expr_in w d x) (map (link_in w d) ls)
unfolding expr_in
in_chain w d x ls = ap (λ (r : Deep Expr). r d) (e.of_chain (placing w) x ls) ∙ ap (expr.Chain (expr_of (placing w) x d)) (links_are w d ls)

pub in_one_of : (w : Leaves) (d : ℕ) (v : Bool) (x : Expr) (es : List Expr) → expr_in w d (expr.OneOf v x es) ≡ expr.OneOf v (expr_in w d x) (map (expr_in w d) es)
unfolding expr_in
in_one_of w d v x es = ap (λ (r : Deep Expr). r d) (e.of_oneof (placing w) v x es) ∙ ap (expr.OneOf v (expr_of (placing w) x d)) (exprs_are w d es)

pub in_cases : (w : Leaves) (d : ℕ) (arms : List (Expr × Expr)) (o : Option Expr) → expr_in w d (expr.Cases arms o) ≡ expr.Cases (map (arm_in w d) arms) (maybe_in w d o)
unfolding expr_in
in_cases w d arms o = ap (λ (r : Deep Expr). r d) (e.of_cases (placing w) arms o) ∙ (λ i. expr.Cases (arms_are w d arms i) (maybe_is w d o i))

pub in_call : (w : Leaves) (d : ℕ) (name : List ℕ) (es : List Expr) → expr_in w d (expr.Call name es) ≡ expr.Call name (map (expr_in w d) es)
unfolding expr_in
in_call w d name es = ap (λ (r : Deep Expr). r d) (e.of_call (placing w) name es) ∙ ap (expr.Call name) (exprs_are w d es)

pub in_scalar : (w : Leaves) (d : ℕ) (q : Query) → expr_in w d (expr.Scalar q) ≡ expr.Scalar (query_in w d q)
unfolding expr_in query_in
in_scalar w d q = ap (λ (r : Deep Expr). r d) (e.of_scalar (placing w) q)

pub in_exists : (w : Leaves) (d : ℕ) (q : Query) → expr_in w d (expr.Exists q) ≡ expr.Exists (query_in w d q)
unfolding expr_in query_in
in_exists w d q = ap (λ (r : Deep Expr). r d) (e.of_exists (placing w) q)

pub in_table : (w : Leaves) (d : ℕ) (name : List ℕ) → source_in w d (source.Table name) ≡ source.Table name
unfolding source_in
in_table w d name = refl

pub in_sub : (w : Leaves) (d : ℕ) (q : Query) (lateral : Bool) → source_in w d (source.Sub q lateral) ≡ source.Sub (query_in w d q) lateral
unfolding source_in query_in
in_sub w d q lateral = ap (λ (r : Deep Source). r d) (e.of_sub (placing w) q lateral)

-- ---- selects and queries

pub in_select : (w : Leaves) (d : ℕ) (s : Select) →
    select_in w d s
    ≡ roll-Select (record {
      list = map (item_in w (d + 1)) (out-Select s).list;
      from = map (from_in w (d + 1)) (out-Select s).from;
      filter = maybe_in w (d + 1) (out-Select s).filter;
      order = map (key_in w (d + 1)) (out-Select s).order;
      limit = maybe_in w (d + 1) (out-Select s).limit;
    })
unfolding select_in
in_select w d s =
    let further : suc d ≡ d + 1 = omega arith in
    ap (λ (r : Deep Select). r d) (e.select_is (placing w) s)
    ∙ ((λ i. roll-Select (record {
      list = items_are w (suc d) (out-Select s).list i;
      from = froms_are w (suc d) (out-Select s).from i;
      filter = maybe_is w (suc d) (out-Select s).filter i;
      order = keys_are w (suc d) (out-Select s).order i;
      limit = maybe_is w (suc d) (out-Select s).limit i;
    })) ∙ ap (λ k. roll-Select (record {
      list = map (item_in w k) (out-Select s).list;
      from = map (from_in w k) (out-Select s).from;
      filter = maybe_in w k (out-Select s).filter;
      order = map (key_in w k) (out-Select s).order;
      limit = maybe_in w k (out-Select s).limit;
    })) further)

pub in_recursive : (w : Leaves) (d : ℕ) (r : Recursive) →
    recursive_in w d r
    ≡ roll-Recursive (record {
      name = (out-Recursive r).name;
      columns = (out-Recursive r).columns;
      first = map (select_in w d) (out-Recursive r).first;
      second = select_in w d (out-Recursive r).second;
    })
unfolding recursive_in select_in
in_recursive w d r =
    ap (λ (q : Recursive). recursive_of (placing w) q d) (sym (roll-out-Recursive r))
    ∙ (ap (λ (q : Deep Recursive). q d) (e.of_recursive (placing w) (out-Recursive r).name (out-Recursive r).columns (out-Recursive r).first (out-Recursive r).second)
    ∙ ap (λ xs. roll-Recursive (record { name = (out-Recursive r).name; columns = (out-Recursive r).columns; first = xs; second = select_of (placing w) (out-Recursive r).second d })) (selects_are w d (out-Recursive r).first))

maybe_recursive_is : (w : Leaves) (d : ℕ) (o : Option Recursive) → option_map (λ (x : Deep Recursive). x d) (option_map (λ x. recursive_of (placing w) x) o) ≡ maybe_recursive_in w d o
unfolding recursive_in
maybe_recursive_is w d None = refl
maybe_recursive_is w d (Some x) = refl

pub in_query : (w : Leaves) (d : ℕ) (q : Query) →
    query_in w d q ≡ roll-Query (record { recursive = maybe_recursive_in w d (out-Query q).recursive; selects = map (select_in w d) (out-Query q).selects })
unfolding query_in
in_query w d q =
    ap (λ (r : Deep Query). r d) (e.query_is (placing w) q)
    ∙ (λ i. roll-Query (record { recursive = maybe_recursive_is w d (out-Query q).recursive i; selects = selects_are w d (out-Query q).selects i }))

pub ruleset placing_rules = (in_int, in_str, in_bool, in_null, in_named, in_qualified, in_slot, in_column, in_param, in_count_rows, in_neg, in_neg_small, in_not, in_is, in_cast, in_compare, in_between, in_chain, in_one_of, in_cases, in_call, in_scalar, in_exists, in_table, in_sub, in_select, in_recursive, in_query)
