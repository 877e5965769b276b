-- Trees in which others stand for slots and columns, by their parts.
use Rattle.std.proofs.Common.{◌≡◌, ℕ, suc, ◌+◌, ℤ, Bool, List, [], ◌∷◌, map, Option, Some, None, option_map, refl, sym, ap, ◌∙◌, arith}
use Rattle.away_values.specs.declared.types.Ty.{Ty}
use Rattle.away_values.specs.declared.operators.ChainOp.{ChainOp}
use Rattle.away_values.specs.declared.operators.CmpOp.{CmpOp}
use Rattle.away_values.specs.declared.operators.IsTest.{IsTest}
use Rattle.away_trees.specs.declared.queries.Col.{Col}
use Rattle.away_trees.specs.declared.queries.Expr.{Expr}
use Rattle.away_trees.specs.declared.queries.Expr.TheVariants as expr
use Rattle.away_trees.specs.declared.queries.Expr.TheViews.{out-Select, out-Query, out-Recursive, out-Item, out-FromItem, out-Key, roll-out-Recursive, roll-Select, roll-Query, roll-Recursive, roll-Item, roll-Key, roll-FromItem}
use Rattle.away_trees.specs.declared.queries.FromItem.{FromItem}
use Rattle.away_trees.specs.declared.queries.Item.{Item}
use Rattle.away_trees.specs.declared.queries.Key.{Key}
use Rattle.away_trees.specs.declared.queries.Query.{Query}
use Rattle.away_trees.specs.declared.queries.Recursive.{Recursive}
use Rattle.away_trees.specs.declared.queries.Select.{Select}
use Rattle.away_trees.specs.declared.queries.Source.{Source}
use Rattle.away_trees.specs.declared.queries.Source.TheVariants as source
use Rattle.away_trees.specs.Algebra.{expr_of, item_of, key_of, from_of, select_of, recursive_of}
use Rattle.away_trees.proofs.Equations as e
use Rattle.sql_meaning.specs.Placed.{Deep}
use Rattle.inline_law.specs.Moved.{moving}
use Rattle.inline_calls.specs.Moving.{expr_in, source_in, select_in, recursive_in, query_in, link_in, arm_in, item_in, from_in, key_in}

-- ---- lists

exprs_are : (l : ℕ → ℕ → Expr) (p : ℕ → Col → Expr) (d : ℕ) (es : List Expr) → map (λ (x : Deep Expr). x d) (map (λ x. expr_of (moving l p) x) es) ≡ map (expr_in l p d) es
unfolding expr_in
exprs_are l p d [] = refl
exprs_are l p d (x ∷ es) = ap (λ ys. expr_of (moving l p) x d ∷ ys) (exprs_are l p d es)

links_are : (l : ℕ → ℕ → Expr) (p : ℕ → Col → Expr) (d : ℕ) (ls : List (ChainOp × Expr)) → map (λ (k : ChainOp × Deep Expr). (k.0, k.1 d)) (map (λ k. e.link_of (moving l p) k) ls) ≡ map (link_in l p d) ls
unfolding expr_in
links_are l p d [] = refl
links_are l p d (k ∷ ls) = ap (λ ys. (k.0, expr_of (moving l p) k.1 d) ∷ ys) (links_are l p d ls)

arms_are : (l : ℕ → ℕ → Expr) (p : ℕ → Col → Expr) (d : ℕ) (arms : List (Expr × Expr)) → map (λ (a : Deep Expr × Deep Expr). (a.0 d, a.1 d)) (map (λ a. e.arm_of (moving l p) a) arms) ≡ map (arm_in l p d) arms
unfolding expr_in
arms_are l p d [] = refl
arms_are l p d (a ∷ arms) = ap (λ ys. (expr_of (moving l p) a.0 d, expr_of (moving l p) a.1 d) ∷ ys) (arms_are l p d arms)

maybe_is : (l : ℕ → ℕ → Expr) (p : ℕ → Col → Expr) (d : ℕ) (o : Option Expr) → option_map (λ (x : Deep Expr). x d) (option_map (λ x. expr_of (moving l p) x) o) ≡ option_map (expr_in l p d) o
unfolding expr_in
maybe_is l p d None = refl
maybe_is l p d (Some x) = refl

items_are : (l : ℕ → ℕ → Expr) (p : ℕ → Col → Expr) (d : ℕ) (xs : List Item) → map (λ (x : Deep Item). x d) (map (λ x. item_of (moving l p) x) xs) ≡ map (item_in l p d) xs
unfolding item_in
items_are l p d [] = refl
items_are l p d (x ∷ xs) = ap (λ ys. item_of (moving l p) x d ∷ ys) (items_are l p d xs)

keys_are : (l : ℕ → ℕ → Expr) (p : ℕ → Col → Expr) (d : ℕ) (xs : List Key) → map (λ (x : Deep Key). x d) (map (λ x. key_of (moving l p) x) xs) ≡ map (key_in l p d) xs
unfolding key_in
keys_are l p d [] = refl
keys_are l p d (x ∷ xs) = ap (λ ys. key_of (moving l p) x d ∷ ys) (keys_are l p d xs)

froms_are : (l : ℕ → ℕ → Expr) (p : ℕ → Col → Expr) (d : ℕ) (xs : List FromItem) → map (λ (x : Deep FromItem). x d) (map (λ x. from_of (moving l p) x) xs) ≡ map (from_in l p d) xs
unfolding from_in
froms_are l p d [] = refl
froms_are l p d (x ∷ xs) = ap (λ ys. from_of (moving l p) x d ∷ ys) (froms_are l p d xs)

selects_are : (l : ℕ → ℕ → Expr) (p : ℕ → Col → Expr) (d : ℕ) (xs : List Select) → map (λ (x : Deep Select). x d) (map (λ x. select_of (moving l p) x) xs) ≡ map (select_in l p d) xs
unfolding select_in
selects_are l p d [] = refl
selects_are l p d (x ∷ xs) = ap (λ ys. select_of (moving l p) x d ∷ ys) (selects_are l p d xs)

-- ---- expressions and sources

pub in_int : (l : ℕ → ℕ → Expr) (p : ℕ → Col → Expr) (d : ℕ) (n : ℤ) → expr_in l p d (expr.Int n) ≡ expr.Int n
unfolding expr_in
in_int l p d n = refl

pub in_str : (l : ℕ → ℕ → Expr) (p : ℕ → Col → Expr) (d : ℕ) (t : List ℕ) → expr_in l p d (expr.Str t) ≡ expr.Str t
unfolding expr_in
in_str l p d t = refl

pub in_bool : (l : ℕ → ℕ → Expr) (p : ℕ → Col → Expr) (d : ℕ) (v : Bool) → expr_in l p d (expr.Bool v) ≡ expr.Bool v
unfolding expr_in
in_bool l p d v = refl

pub in_null : (l : ℕ → ℕ → Expr) (p : ℕ → Col → Expr) (d : ℕ) → expr_in l p d (expr.Null) ≡ expr.Null
unfolding expr_in
in_null l p d = refl

pub in_named : (l : ℕ → ℕ → Expr) (p : ℕ → Col → Expr) (d : ℕ) (t : List ℕ) → expr_in l p d (expr.Named t) ≡ expr.Named t
unfolding expr_in
in_named l p d t = refl

pub in_qualified : (l : ℕ → ℕ → Expr) (p : ℕ → Col → Expr) (d : ℕ) (t c : List ℕ) → expr_in l p d (expr.Dotted t c) ≡ expr.Dotted t c
unfolding expr_in
in_qualified l p d t c = refl

pub in_slot : (l : ℕ → ℕ → Expr) (p : ℕ → Col → Expr) (d : ℕ) (i : ℕ) → expr_in l p d (expr.Slot i) ≡ l d i
unfolding expr_in
in_slot l p d i = refl

pub in_column : (l : ℕ → ℕ → Expr) (p : ℕ → Col → Expr) (d : ℕ) (c : Col) → expr_in l p d (expr.Column c) ≡ p d c
unfolding expr_in
in_column l p d c = refl

pub in_param : (l : ℕ → ℕ → Expr) (p : ℕ → Col → Expr) (d : ℕ) (i : ℕ) (t : Ty) → expr_in l p d (expr.Param i t) ≡ expr.Param i t
unfolding expr_in
in_param l p d i t = refl

pub in_count_rows : (l : ℕ → ℕ → Expr) (p : ℕ → Col → Expr) (d : ℕ) → expr_in l p d (expr.CountRows) ≡ expr.CountRows
unfolding expr_in
in_count_rows l p d = refl

pub in_neg : (l : ℕ → ℕ → Expr) (p : ℕ → Col → Expr) (d : ℕ) (x : Expr) → expr_in l p d (expr.Neg x) ≡ expr.Neg (expr_in l p d x)
unfolding expr_in
in_neg l p d x = ap (λ (r : Deep Expr). r d) (e.of_neg (moving l p) x)

pub in_neg_small : (l : ℕ → ℕ → Expr) (p : ℕ → Col → Expr) (d : ℕ) (x : Expr) → expr_in l p d (expr.NegSmall x) ≡ expr.NegSmall (expr_in l p d x)
unfolding expr_in
in_neg_small l p d x = ap (λ (r : Deep Expr). r d) (e.of_negsmall (moving l p) x)

pub in_not : (l : ℕ → ℕ → Expr) (p : ℕ → Col → Expr) (d : ℕ) (x : Expr) → expr_in l p d (expr.Not x) ≡ expr.Not (expr_in l p d x)
unfolding expr_in
in_not l p d x = ap (λ (r : Deep Expr). r d) (e.of_not (moving l p) x)

pub in_is : (l : ℕ → ℕ → Expr) (p : ℕ → Col → Expr) (d : ℕ) (x : Expr) (t : IsTest) (v : Bool) → expr_in l p d (expr.Is x t v) ≡ expr.Is (expr_in l p d x) t v
unfolding expr_in
in_is l p d x t v = ap (λ (r : Deep Expr). r d) (e.of_is (moving l p) x t v)

pub in_cast : (l : ℕ → ℕ → Expr) (p : ℕ → Col → Expr) (d : ℕ) (x : Expr) (t : Ty) → expr_in l p d (expr.Cast x t) ≡ expr.Cast (expr_in l p d x) t
unfolding expr_in
in_cast l p d x t = ap (λ (r : Deep Expr). r d) (e.of_cast (moving l p) x t)

pub in_compare : (l : ℕ → ℕ → Expr) (p : ℕ → Col → Expr) (d : ℕ) (op : CmpOp) (x y : Expr) → expr_in l p d (expr.Compare op x y) ≡ expr.Compare op (expr_in l p d x) (expr_in l p d y)
unfolding expr_in
in_compare l p d op x y = ap (λ (r : Deep Expr). r d) (e.of_compare (moving l p) op x y)

pub in_between : (l : ℕ → ℕ → Expr) (p : ℕ → Col → Expr) (d : ℕ) (v : Bool) (x y z : Expr) → expr_in l p d (expr.Between v x y z) ≡ expr.Between v (expr_in l p d x) (expr_in l p d y) (expr_in l p d z)
unfolding expr_in
in_between l p d v x y z = ap (λ (r : Deep Expr). r d) (e.of_between (moving l p) v x y z)

pub in_chain : (l : ℕ → ℕ → Expr) (p : ℕ → Col → Expr) (d : ℕ) (x : Expr) (ls : List (ChainOp × Expr)) → expr_in l p d (expr.Chain x ls) ≡ expr.Chain (expr_in l p d x) (map (link_in l p d) ls)
unfolding expr_in
in_chain l p d x ls = ap (λ (r : Deep Expr). r d) (e.of_chain (moving l p) x ls) ∙ ap (expr.Chain (expr_of (moving l p) x d)) (links_are l p d ls)

pub in_one_of : (l : ℕ → ℕ → Expr) (p : ℕ → Col → Expr) (d : ℕ) (v : Bool) (x : Expr) (es : List Expr) → expr_in l p d (expr.OneOf v x es) ≡ expr.OneOf v (expr_in l p d x) (map (expr_in l p d) es)
unfolding expr_in
in_one_of l p d v x es = ap (λ (r : Deep Expr). r d) (e.of_oneof (moving l p) v x es) ∙ ap (expr.OneOf v (expr_of (moving l p) x d)) (exprs_are l p d es)

pub in_cases : (l : ℕ → ℕ → Expr) (p : ℕ → Col → Expr) (d : ℕ) (arms : List (Expr × Expr)) (o : Option Expr) → expr_in l p d (expr.Cases arms o) ≡ expr.Cases (map (arm_in l p d) arms) (option_map (expr_in l p d) o)
unfolding expr_in
in_cases l p d arms o = ap (λ (r : Deep Expr). r d) (e.of_cases (moving l p) arms o) ∙ (λ i. expr.Cases (arms_are l p d arms i) (maybe_is l p d o i))

pub in_call : (l : ℕ → ℕ → Expr) (p : ℕ → Col → Expr) (d : ℕ) (name : List ℕ) (es : List Expr) → expr_in l p d (expr.Call name es) ≡ expr.Call name (map (expr_in l p d) es)
unfolding expr_in
in_call l p d name es = ap (λ (r : Deep Expr). r d) (e.of_call (moving l p) name es) ∙ ap (expr.Call name) (exprs_are l p d es)

pub in_scalar : (l : ℕ → ℕ → Expr) (p : ℕ → Col → Expr) (d : ℕ) (q : Query) → expr_in l p d (expr.Scalar q) ≡ expr.Scalar (query_in l p d q)
unfolding expr_in query_in
in_scalar l p d q = ap (λ (r : Deep Expr). r d) (e.of_scalar (moving l p) q)

pub in_exists : (l : ℕ → ℕ → Expr) (p : ℕ → Col → Expr) (d : ℕ) (q : Query) → expr_in l p d (expr.Exists q) ≡ expr.Exists (query_in l p d q)
unfolding expr_in query_in
in_exists l p d q = ap (λ (r : Deep Expr). r d) (e.of_exists (moving l p) q)

pub in_table : (l : ℕ → ℕ → Expr) (p : ℕ → Col → Expr) (d : ℕ) (name : List ℕ) → source_in l p d (source.Table name) ≡ source.Table name
unfolding source_in
in_table l p d name = refl

pub in_sub : (l : ℕ → ℕ → Expr) (p : ℕ → Col → Expr) (d : ℕ) (q : Query) (lateral : Bool) → source_in l p d (source.Sub q lateral) ≡ source.Sub (query_in l p d q) lateral
unfolding source_in query_in
in_sub l p d q lateral = ap (λ (r : Deep Source). r d) (e.of_sub (moving l p) q lateral)

-- ---- selects and queries

pub in_select : (l : ℕ → ℕ → Expr) (p : ℕ → Col → Expr) (d : ℕ) (s : Select) →
    select_in l p d s
    ≡ roll-Select (record {
      list = map (item_in l p (d + 1)) (out-Select s).list;
      from = map (from_in l p (d + 1)) (out-Select s).from;
      filter = option_map (expr_in l p (d + 1)) (out-Select s).filter;
      order = map (key_in l p (d + 1)) (out-Select s).order;
      limit = option_map (expr_in l p (d + 1)) (out-Select s).limit;
    })
unfolding select_in
in_select l p d s =
    let further : suc d ≡ d + 1 = omega arith in
    ap (λ (r : Deep Select). r d) (e.select_is (moving l p) s)
    ∙ ((λ i. roll-Select (record {
      list = items_are l p (suc d) (out-Select s).list i;
      from = froms_are l p (suc d) (out-Select s).from i;
      filter = maybe_is l p (suc d) (out-Select s).filter i;
      order = keys_are l p (suc d) (out-Select s).order i;
      limit = maybe_is l p (suc d) (out-Select s).limit i;
    })) ∙ ap (λ k. roll-Select (record {
      list = map (item_in l p k) (out-Select s).list;
      from = map (from_in l p k) (out-Select s).from;
      filter = option_map (expr_in l p k) (out-Select s).filter;
      order = map (key_in l p k) (out-Select s).order;
      limit = option_map (expr_in l p k) (out-Select s).limit;
    })) further)

pub in_recursive : (l : ℕ → ℕ → Expr) (p : ℕ → Col → Expr) (d : ℕ) (r : Recursive) →
    recursive_in l p d r
    ≡ roll-Recursive (record {
      name = (out-Recursive r).name;
      columns = (out-Recursive r).columns;
      first = map (select_in l p d) (out-Recursive r).first;
      second = select_in l p d (out-Recursive r).second;
    })
unfolding recursive_in select_in
in_recursive l p d r =
    ap (λ (q : Recursive). recursive_of (moving l p) q d) (sym (roll-out-Recursive r))
    ∙ (ap (λ (q : Deep Recursive). q d) (e.of_recursive (moving l p) (out-Recursive r).name (out-Recursive r).columns (out-Recursive r).first (out-Recursive r).second)
    ∙ ap (λ xs. roll-Recursive (record { name = (out-Recursive r).name; columns = (out-Recursive r).columns; first = xs; second = select_of (moving l p) (out-Recursive r).second d })) (selects_are l p d (out-Recursive r).first))

maybe_recursive_is : (l : ℕ → ℕ → Expr) (p : ℕ → Col → Expr) (d : ℕ) (o : Option Recursive) → option_map (λ (x : Deep Recursive). x d) (option_map (λ x. recursive_of (moving l p) x) o) ≡ option_map (recursive_in l p d) o
unfolding recursive_in
maybe_recursive_is l p d None = refl
maybe_recursive_is l p d (Some x) = refl

pub in_query : (l : ℕ → ℕ → Expr) (p : ℕ → Col → Expr) (d : ℕ) (q : Query) →
    query_in l p d q ≡ roll-Query (record { recursive = option_map (recursive_in l p d) (out-Query q).recursive; selects = map (select_in l p d) (out-Query q).selects })
unfolding query_in
in_query l p d q =
    ap (λ (r : Deep Query). r d) (e.query_is (moving l p) q)
    ∙ (λ i. roll-Query (record { recursive = maybe_recursive_is l p d (out-Query q).recursive i; selects = selects_are l p d (out-Query q).selects i }))

pub in_item : (l : ℕ → ℕ → Expr) (p : ℕ → Col → Expr) (d : ℕ) (i : Item) → item_in l p d i ≡ roll-Item (record { expr = expr_in l p d (out-Item i).expr; alias = (out-Item i).alias })
unfolding item_in expr_in
in_item l p d i = refl

pub in_key : (l : ℕ → ℕ → Expr) (p : ℕ → Col → Expr) (d : ℕ) (k : Key) → key_in l p d k ≡ roll-Key (record { expr = expr_in l p d (out-Key k).expr; descending = (out-Key k).descending })
unfolding key_in expr_in
in_key l p d k = refl

pub in_from : (l : ℕ → ℕ → Expr) (p : ℕ → Col → Expr) (d : ℕ) (f : FromItem) → from_in l p d f ≡ roll-FromItem (record { source = source_in l p d (out-FromItem f).source; alias = (out-FromItem f).alias; columns = (out-FromItem f).columns })
unfolding from_in source_in
in_from l p d f = refl

pub ruleset leaf_rules = (in_int, in_str, in_bool, in_null, in_named, in_qualified, in_slot, in_column, in_param, in_count_rows)

pub ruleset one_part_rules = (in_neg, in_neg_small, in_not, in_is, in_cast, in_scalar, in_exists)

pub ruleset parts_rules = (in_compare, in_between, in_chain, in_one_of, in_cases, in_call)

pub ruleset source_rules = (in_table, in_sub)
