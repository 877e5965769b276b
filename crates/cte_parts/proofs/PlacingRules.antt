-- An expression as it stands in the query, by its parts.
use Rattle.std.proofs.Common.{◌≡◌, ℕ, suc, ◌+◌, ℤ, Bool, List, [], ◌∷◌, map, Option, Some, None, option_map, refl, sym, ap, ◌∙◌, arith}
use Rattle.away_values.specs.declared.types.Ty.{Ty}
use Rattle.away_values.specs.declared.types.Ty.TheVariants as ty
use Rattle.away_values.specs.Operators.{literal_type}
use Rattle.away_values.specs.declared.operators.ChainOp.{ChainOp}
use Rattle.away_values.specs.declared.operators.CmpOp.{CmpOp}
use Rattle.away_values.specs.declared.operators.IsTest.{IsTest}
use Rattle.away_trees.specs.declared.queries.Col.{Col}
use Rattle.away_trees.specs.declared.queries.Expr.{Expr}
use Rattle.away_trees.specs.declared.queries.Expr.TheVariants as expr
use Rattle.away_trees.specs.declared.queries.Expr.TheViews.{out-Select, out-Query, out-Recursive, roll-out-Recursive, roll-Select, roll-Query, roll-Recursive}
use Rattle.away_trees.specs.declared.queries.FromItem.{FromItem}
use Rattle.away_trees.specs.declared.queries.Item.{Item}
use Rattle.away_trees.specs.declared.queries.Key.{Key}
use Rattle.away_trees.specs.declared.queries.Query.{Query}
use Rattle.away_trees.specs.declared.queries.Recursive.{Recursive}
use Rattle.away_trees.specs.declared.queries.Select.{Select}
use Rattle.away_trees.specs.declared.queries.Source.{Source}
use Rattle.away_trees.specs.declared.queries.Source.TheVariants as source
use Rattle.away_trees.specs.Algebra.{expr_of, item_of, key_of, from_of, select_of, source_of, recursive_of, query_of}
use Rattle.away_trees.proofs.Equations as e
use Rattle.sql_meaning.specs.Placed.{Deep, further, with_cast, placed_at}
use Rattle.away_trees.specs.declared.queries.Expr.TheBlock as b
use Rattle.cte_parts.specs.Columns.{column_beside}
use Rattle.cte_parts.specs.declared.columns.Leaves.{Leaves}
use Rattle.cte_parts.specs.Placing.{column_at, placing, expr_in, source_in, select_in, recursive_in, query_in, link_in, arm_in, item_in, from_in, key_in, maybe_in, maybe_recursive_in}

-- ---- lists

exprs_are : (ref : ℕ → Col) (d : ℕ) (es : List Expr) → map (λ (x : Deep Expr). x d) (map (λ x. expr_of (placing ref) x) es) ≡ map (expr_in ref d) es
unfolding expr_in
exprs_are ref d [] = refl
exprs_are ref d (x ∷ es) = ap (λ ys. expr_of (placing ref) x d ∷ ys) (exprs_are ref d es)

links_are : (ref : ℕ → Col) (d : ℕ) (ls : List (ChainOp × Expr)) → map (λ (l : ChainOp × Deep Expr). (l.0, l.1 d)) (map (λ l. e.link_of (placing ref) l) ls) ≡ map (link_in ref d) ls
unfolding expr_in
links_are ref d [] = refl
links_are ref d (l ∷ ls) = ap (λ ys. (l.0, expr_of (placing ref) l.1 d) ∷ ys) (links_are ref d ls)

arms_are : (ref : ℕ → Col) (d : ℕ) (arms : List (Expr × Expr)) → map (λ (a : Deep Expr × Deep Expr). (a.0 d, a.1 d)) (map (λ a. e.arm_of (placing ref) a) arms) ≡ map (arm_in ref d) arms
unfolding expr_in
arms_are ref d [] = refl
arms_are ref d (a ∷ arms) = ap (λ ys. (expr_of (placing ref) a.0 d, expr_of (placing ref) a.1 d) ∷ ys) (arms_are ref d arms)

maybe_is : (ref : ℕ → Col) (d : ℕ) (o : Option Expr) → option_map (λ (x : Deep Expr). x d) (option_map (λ x. expr_of (placing ref) x) o) ≡ maybe_in ref d o
unfolding expr_in
maybe_is ref d None = refl
maybe_is ref d (Some x) = refl

items_are : (ref : ℕ → Col) (d : ℕ) (xs : List Item) → map (λ (x : Deep Item). x d) (map (λ x. item_of (placing ref) x) xs) ≡ map (item_in ref d) xs
unfolding expr_in
items_are ref d [] = refl
items_are ref d (x ∷ xs) = ap (λ ys. item_of (placing ref) x d ∷ ys) (items_are ref d xs)

keys_are : (ref : ℕ → Col) (d : ℕ) (xs : List Key) → map (λ (x : Deep Key). x d) (map (λ x. key_of (placing ref) x) xs) ≡ map (key_in ref d) xs
unfolding expr_in
keys_are ref d [] = refl
keys_are ref d (x ∷ xs) = ap (λ ys. key_of (placing ref) x d ∷ ys) (keys_are ref d xs)

froms_are : (ref : ℕ → Col) (d : ℕ) (xs : List FromItem) → map (λ (x : Deep FromItem). x d) (map (λ x. from_of (placing ref) x) xs) ≡ map (from_in ref d) xs
unfolding source_in
froms_are ref d [] = refl
froms_are ref d (x ∷ xs) = ap (λ ys. from_of (placing ref) x d ∷ ys) (froms_are ref d xs)

selects_are : (ref : ℕ → Col) (d : ℕ) (xs : List Select) → map (λ (x : Deep Select). x d) (map (λ x. select_of (placing ref) x) xs) ≡ map (select_in ref d) xs
unfolding select_in
selects_are ref d [] = refl
selects_are ref d (x ∷ xs) = ap (λ ys. select_of (placing ref) x d ∷ ys) (selects_are ref d xs)

-- ---- expressions and sources

pub in_int : (ref : ℕ → Col) (d : ℕ) (n : ℤ) → expr_in ref d (expr.Int n) ≡ with_cast (literal_type n) (expr.Int n)
unfolding expr_in
in_int ref d n = refl

pub in_str : (ref : ℕ → Col) (d : ℕ) (t : List ℕ) → expr_in ref d (expr.Str t) ≡ with_cast ty.Text (expr.Str t)
unfolding expr_in
in_str ref d t = refl

pub in_bool : (ref : ℕ → Col) (d : ℕ) (v : Bool) → expr_in ref d (expr.Bool v) ≡ with_cast ty.Boolean (expr.Bool v)
unfolding expr_in
in_bool ref d v = refl

pub in_null : (ref : ℕ → Col) (d : ℕ) → expr_in ref d (expr.Null) ≡ expr.Null
unfolding expr_in
in_null ref d = refl

pub in_named : (ref : ℕ → Col) (d : ℕ) (t : List ℕ) → expr_in ref d (expr.Named t) ≡ expr.Named t
unfolding expr_in
in_named ref d t = refl

pub in_qualified : (ref : ℕ → Col) (d : ℕ) (t c : List ℕ) → expr_in ref d (expr.Dotted t c) ≡ expr.Dotted t c
unfolding expr_in
in_qualified ref d t c = refl

pub in_slot : (ref : ℕ → Col) (d : ℕ) (i : ℕ) → expr_in ref d (expr.Slot i) ≡ expr.Column (further d (ref i))
unfolding expr_in
in_slot ref d i = refl

pub in_column : (ref : ℕ → Col) (d : ℕ) (c : Col) → expr_in ref d (expr.Column c) ≡ expr.Column c
unfolding expr_in
in_column ref d c = refl

pub in_param : (ref : ℕ → Col) (d : ℕ) (i : ℕ) (t : Ty) → expr_in ref d (expr.Param i t) ≡ expr.Param i t
unfolding expr_in
in_param ref d i t = refl

pub in_count_rows : (ref : ℕ → Col) (d : ℕ) → expr_in ref d (expr.CountRows) ≡ expr.CountRows
unfolding expr_in
in_count_rows ref d = refl

pub in_neg : (ref : ℕ → Col) (d : ℕ) (x : Expr) → expr_in ref d (expr.Neg x) ≡ expr.Neg (expr_in ref d x)
unfolding expr_in
in_neg ref d x = ap (λ (r : Deep Expr). r d) (e.of_neg (placing ref) x)

pub in_neg_small : (ref : ℕ → Col) (d : ℕ) (x : Expr) → expr_in ref d (expr.NegSmall x) ≡ expr.NegSmall (expr_in ref d x)
unfolding expr_in
in_neg_small ref d x = ap (λ (r : Deep Expr). r d) (e.of_negsmall (placing ref) x)

pub in_not : (ref : ℕ → Col) (d : ℕ) (x : Expr) → expr_in ref d (expr.Not x) ≡ expr.Not (expr_in ref d x)
unfolding expr_in
in_not ref d x = ap (λ (r : Deep Expr). r d) (e.of_not (placing ref) x)

pub in_is : (ref : ℕ → Col) (d : ℕ) (x : Expr) (t : IsTest) (v : Bool) → expr_in ref d (expr.Is x t v) ≡ expr.Is (expr_in ref d x) t v
unfolding expr_in
in_is ref d x t v = ap (λ (r : Deep Expr). r d) (e.of_is (placing ref) x t v)

pub in_cast : (ref : ℕ → Col) (d : ℕ) (x : Expr) (t : Ty) → expr_in ref d (expr.Cast x t) ≡ expr.Cast (expr_in ref d x) t
unfolding expr_in
in_cast ref d x t = ap (λ (r : Deep Expr). r d) (e.of_cast (placing ref) x t)

pub in_compare : (ref : ℕ → Col) (d : ℕ) (op : CmpOp) (x y : Expr) → expr_in ref d (expr.Compare op x y) ≡ expr.Compare op (expr_in ref d x) (expr_in ref d y)
unfolding expr_in
in_compare ref d op x y = ap (λ (r : Deep Expr). r d) (e.of_compare (placing ref) op x y)

pub in_between : (ref : ℕ → Col) (d : ℕ) (v : Bool) (x y z : Expr) → expr_in ref d (expr.Between v x y z) ≡ expr.Between v (expr_in ref d x) (expr_in ref d y) (expr_in ref d z)
unfolding expr_in
in_between ref d v x y z = ap (λ (r : Deep Expr). r d) (e.of_between (placing ref) v x y z)

pub in_chain : (ref : ℕ → Col) (d : ℕ) (x : Expr) (ls : List (ChainOp × Expr)) → expr_in ref d (expr.Chain x ls) ≡ expr.Chain (expr_in ref d x) (map (link_in ref d) ls)
unfolding expr_in
in_chain ref d x ls = ap (λ (r : Deep Expr). r d) (e.of_chain (placing ref) x ls) ∙ ap (expr.Chain (expr_of (placing ref) x d)) (links_are ref d ls)

pub in_one_of : (ref : ℕ → Col) (d : ℕ) (v : Bool) (x : Expr) (es : List Expr) → expr_in ref d (expr.OneOf v x es) ≡ expr.OneOf v (expr_in ref d x) (map (expr_in ref d) es)
unfolding expr_in
in_one_of ref d v x es = ap (λ (r : Deep Expr). r d) (e.of_oneof (placing ref) v x es) ∙ ap (expr.OneOf v (expr_of (placing ref) x d)) (exprs_are ref d es)

pub in_cases : (ref : ℕ → Col) (d : ℕ) (arms : List (Expr × Expr)) (o : Option Expr) → expr_in ref d (expr.Cases arms o) ≡ expr.Cases (map (arm_in ref d) arms) (maybe_in ref d o)
unfolding expr_in
in_cases ref d arms o = ap (λ (r : Deep Expr). r d) (e.of_cases (placing ref) arms o) ∙ (λ i. expr.Cases (arms_are ref d arms i) (maybe_is ref d o i))

pub in_call : (ref : ℕ → Col) (d : ℕ) (name : List ℕ) (es : List Expr) → expr_in ref d (expr.Call name es) ≡ expr.Call name (map (expr_in ref d) es)
unfolding expr_in
in_call ref d name es = ap (λ (r : Deep Expr). r d) (e.of_call (placing ref) name es) ∙ ap (expr.Call name) (exprs_are ref d es)

pub in_scalar : (ref : ℕ → Col) (d : ℕ) (q : Query) → expr_in ref d (expr.Scalar q) ≡ expr.Scalar (query_in ref d q)
unfolding expr_in query_in
in_scalar ref d q = ap (λ (r : Deep Expr). r d) (e.of_scalar (placing ref) q)

pub in_exists : (ref : ℕ → Col) (d : ℕ) (q : Query) → expr_in ref d (expr.Exists q) ≡ expr.Exists (query_in ref d q)
unfolding expr_in query_in
in_exists ref d q = ap (λ (r : Deep Expr). r d) (e.of_exists (placing ref) q)

pub in_table : (ref : ℕ → Col) (d : ℕ) (name : List ℕ) → source_in ref d (source.Table name) ≡ source.Table name
unfolding source_in
in_table ref d name = refl

pub in_sub : (ref : ℕ → Col) (d : ℕ) (q : Query) (lateral : Bool) → source_in ref d (source.Sub q lateral) ≡ source.Sub (query_in ref d q) lateral
unfolding source_in query_in
in_sub ref d q lateral = ap (λ (r : Deep Source). r d) (e.of_sub (placing ref) q lateral)

-- ---- selects and queries

pub in_select : (ref : ℕ → Col) (d : ℕ) (s : Select) →
    select_in ref d s
    ≡ roll-Select (record {
      list = map (item_in ref (d + 1)) (out-Select s).list;
      from = map (from_in ref (d + 1)) (out-Select s).from;
      filter = maybe_in ref (d + 1) (out-Select s).filter;
      order = map (key_in ref (d + 1)) (out-Select s).order;
      limit = maybe_in ref (d + 1) (out-Select s).limit;
    })
unfolding select_in
in_select ref d s =
    let further : suc d ≡ d + 1 = omega arith in
    ap (λ (r : Deep Select). r d) (e.select_is (placing ref) s)
    ∙ ((λ i. roll-Select (record {
      list = items_are ref (suc d) (out-Select s).list i;
      from = froms_are ref (suc d) (out-Select s).from i;
      filter = maybe_is ref (suc d) (out-Select s).filter i;
      order = keys_are ref (suc d) (out-Select s).order i;
      limit = maybe_is ref (suc d) (out-Select s).limit i;
    })) ∙ ap (λ k. roll-Select (record {
      list = map (item_in ref k) (out-Select s).list;
      from = map (from_in ref k) (out-Select s).from;
      filter = maybe_in ref k (out-Select s).filter;
      order = map (key_in ref k) (out-Select s).order;
      limit = maybe_in ref k (out-Select s).limit;
    })) further)

pub in_recursive : (ref : ℕ → Col) (d : ℕ) (r : Recursive) →
    recursive_in ref d r
    ≡ roll-Recursive (record {
      name = (out-Recursive r).name;
      columns = (out-Recursive r).columns;
      first = map (select_in ref d) (out-Recursive r).first;
      second = select_in ref d (out-Recursive r).second;
    })
unfolding recursive_in select_in
in_recursive ref d r =
    ap (λ (q : Recursive). recursive_of (placing ref) q d) (sym (roll-out-Recursive r))
    ∙ (ap (λ (q : Deep Recursive). q d) (e.of_recursive (placing ref) (out-Recursive r).name (out-Recursive r).columns (out-Recursive r).first (out-Recursive r).second)
    ∙ ap (λ xs. roll-Recursive (record { name = (out-Recursive r).name; columns = (out-Recursive r).columns; first = xs; second = select_of (placing ref) (out-Recursive r).second d })) (selects_are ref d (out-Recursive r).first))

maybe_recursive_is : (ref : ℕ → Col) (d : ℕ) (o : Option Recursive) → option_map (λ (x : Deep Recursive). x d) (option_map (λ x. recursive_of (placing ref) x) o) ≡ maybe_recursive_in ref d o
unfolding recursive_in
maybe_recursive_is ref d None = refl
maybe_recursive_is ref d (Some x) = refl

pub in_query : (ref : ℕ → Col) (d : ℕ) (q : Query) →
    query_in ref d q ≡ roll-Query (record { recursive = maybe_recursive_in ref d (out-Query q).recursive; selects = map (select_in ref d) (out-Query q).selects })
unfolding query_in
in_query ref d q =
    ap (λ (r : Deep Query). r d) (e.query_is (placing ref) q)
    ∙ (λ i. roll-Query (record { recursive = maybe_recursive_is ref d (out-Query q).recursive i; selects = selects_are ref d (out-Query q).selects i }))

-- ---- columns, and whole expressions

pub column_is : (l : Leaves) (slot : ℕ) → column_at l slot ≡ column_beside l.slots.now l.columns.now l.other slot
unfolding column_at
column_is l slot = refl

pub columns_are : (l : Leaves) → column_at l ≡ column_beside l.slots.now l.columns.now l.other
columns_are l = λ i slot. column_is l slot i

pub whole_null : (t : Ty) (ref : ℕ → Col) → placed_at t ref expr.Null ≡ with_cast t expr.Null
whole_null t ref = refl

pub whole_other : (t : Ty) (ref : ℕ → Col) (x : Expr) → (x ≡ expr.Null → ⊥) → placed_at t ref x ≡ expr_in ref 0 x
unfolding expr_in
whole_other t ref b.Null h = absurd (h refl)
whole_other t ref x h = refl

pub ruleset placing_rules = (in_int, in_str, in_bool, in_null, in_named, in_qualified, in_slot, in_column, in_param, in_count_rows, in_neg, in_neg_small, in_not, in_is, in_cast, in_compare, in_between, in_chain, in_one_of, in_cases, in_call, in_scalar, in_exists, in_table, in_sub, in_select, in_recursive, in_query)
