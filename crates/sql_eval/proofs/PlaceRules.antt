-- Where tables stand, for each kind of node and along each list.
use Rattle.std.proofs.Common.{◌≡◌, refl, ◌∙◌, ap, ℕ, ℤ, Bool, true, false, ◌&&◌, List, [], ◌∷◌, map, nat_lt, Option, Some, None, option_map}
use Rattle.std.specs.List.{list_all}
use Rattle.away_values.specs.declared.types.Ty.{Ty}
use Rattle.away_values.specs.declared.operators.ChainOp.{ChainOp}
use Rattle.away_values.specs.declared.operators.CmpOp.{CmpOp}
use Rattle.away_values.specs.declared.operators.IsTest.{IsTest}
use Rattle.away_trees.specs.declared.queries.Col.{Col}
use Rattle.away_trees.specs.declared.queries.Query.{Query}
use Rattle.away_trees.specs.declared.queries.Item.{Item}
use Rattle.away_trees.specs.declared.queries.Key.{Key}
use Rattle.away_trees.specs.declared.queries.Select.{Select}
use Rattle.away_trees.specs.declared.queries.FromItem.{FromItem}
use Rattle.away_trees.specs.declared.queries.Expr.{Expr}
use Rattle.away_trees.specs.declared.queries.Expr.TheVariants as expr
use Rattle.away_trees.specs.declared.queries.Source.TheVariants as source
use Rattle.away_trees.specs.declared.queries.Expr.TheViews.{out-FromItem, out-Item, out-Key, out-Query, out-Select}
use Rattle.away_trees.specs.Algebra.{expr_of, item_of, key_of, from_of, select_of, source_of}
use Rattle.away_trees.proofs.Equations as eq
use Rattle.sql_meaning.specs.Selects.{place_of}
use Rattle.sql_meaning.proofs.WalkRules.{next_item, none_left}
use Rattle.sql_eval.specs.Places.{placing, true_or_none, all_true, expr_within, from_within, select_within, query_within, all_exprs, all_links, all_arms, other_within, optional_within, all_items, all_keys, all_froms, all_selects}
use Rattle.sql_eval.specs.Kept.{source_stands, stands_at, stands_alone, is_suited}

all_map : {A B : Type 0} (f : B → Bool) (g : A → B) (xs : List A) → list_all f (map g xs) ≡ list_all (λ x. f (g x)) xs
all_map f g [] = refl
all_map f g (x ∷ xs) = ap (λ b. f (g x) && b) (all_map f g xs)

-- ---- expressions

pub in_int : (k : ℕ) (n : ℤ) → expr_within k (expr.Int n) ≡ true
unfolding expr_within
in_int k n = refl

pub in_str : (k : ℕ) (t : List ℕ) → expr_within k (expr.Str t) ≡ true
unfolding expr_within
in_str k t = refl

pub in_bool : (k : ℕ) (b : Bool) → expr_within k (expr.Bool b) ≡ true
unfolding expr_within
in_bool k b = refl

pub in_null : (k : ℕ) → expr_within k expr.Null ≡ true
unfolding expr_within
in_null k = refl

pub in_named : (k : ℕ) (t : List ℕ) → expr_within k (expr.Named t) ≡ true
unfolding expr_within
in_named k t = refl

pub in_qualified : (k : ℕ) (t u : List ℕ) → expr_within k (expr.Dotted t u) ≡ true
unfolding expr_within
in_qualified k t u = refl

pub in_slot : (k i : ℕ) → expr_within k (expr.Slot i) ≡ true
unfolding expr_within
in_slot k i = refl

pub in_column : (k : ℕ) (c : Col) → expr_within k (expr.Column c) ≡ true
unfolding expr_within
in_column k c = refl

pub in_param : (k i : ℕ) (t : Ty) → expr_within k (expr.Param i t) ≡ true
unfolding expr_within
in_param k i t = refl

pub in_neg : (k : ℕ) (e : Expr) → expr_within k (expr.Neg e) ≡ expr_within k e
unfolding expr_within
in_neg k e = eq.of_neg (placing k) e

pub in_neg_small : (k : ℕ) (e : Expr) → expr_within k (expr.NegSmall e) ≡ expr_within k e
unfolding expr_within
in_neg_small k e = eq.of_negsmall (placing k) e

pub in_not : (k : ℕ) (e : Expr) → expr_within k (expr.Not e) ≡ expr_within k e
unfolding expr_within
in_not k e = eq.of_not (placing k) e

pub in_is : (k : ℕ) (e : Expr) (t : IsTest) (n : Bool) → expr_within k (expr.Is e t n) ≡ expr_within k e
unfolding expr_within
in_is k e t n = eq.of_is (placing k) e t n

pub in_chain : (k : ℕ) (e : Expr) (ls : List (ChainOp × Expr)) → expr_within k (expr.Chain e ls) ≡ (expr_within k e && all_links k ls)
unfolding expr_within all_links
in_chain k e ls = eq.of_chain (placing k) e ls ∙ ap (λ b. expr_of (placing k) e && b) (all_map (λ (l : ChainOp × Bool). l.1) (λ l. eq.link_of (placing k) l) ls)

pub in_compare : (k : ℕ) (op : CmpOp) (x y : Expr) → expr_within k (expr.Compare op x y) ≡ (expr_within k x && expr_within k y)
unfolding expr_within
in_compare k op x y = eq.of_compare (placing k) op x y

pub in_between : (k : ℕ) (n : Bool) (x y z : Expr) → expr_within k (expr.Between n x y z) ≡ (expr_within k x && (expr_within k y && expr_within k z))
unfolding expr_within
in_between k n x y z = eq.of_between (placing k) n x y z

pub in_one_of : (k : ℕ) (n : Bool) (e : Expr) (cs : List Expr) → expr_within k (expr.OneOf n e cs) ≡ (expr_within k e && all_exprs k cs)
unfolding expr_within all_exprs
in_one_of k n e cs = eq.of_oneof (placing k) n e cs ∙ ap (λ b. expr_of (placing k) e && b) (all_map (λ (b : Bool). b) (λ (c : Expr). expr_of (placing k) c) cs)

pub in_cast : (k : ℕ) (e : Expr) (t : Ty) → expr_within k (expr.Cast e t) ≡ expr_within k e
unfolding expr_within
in_cast k e t = eq.of_cast (placing k) e t

in_other : (k : ℕ) (other : Option Expr) → true_or_none (option_map (λ e. expr_of (placing k) e) other) ≡ other_within k other
unfolding other_within expr_within
in_other k None = refl
in_other k (Some e) = refl

pub in_cases : (k : ℕ) (arms : List (Expr × Expr)) (other : Option Expr) → expr_within k (expr.Cases arms other) ≡ (all_arms k arms && other_within k other)
unfolding expr_within all_arms
in_cases k arms other =
    eq.of_cases (placing k) arms other
    ∙ (λ i. all_map (λ (a : Bool × Bool). a.0 && a.1) (λ a. eq.arm_of (placing k) a) arms i && in_other k other i)

pub in_call : (k : ℕ) (name : List ℕ) (es : List Expr) → expr_within k (expr.Call name es) ≡ all_exprs k es
unfolding expr_within all_exprs
in_call k name es = eq.of_call (placing k) name es ∙ all_map (λ (b : Bool). b) (λ (c : Expr). expr_of (placing k) c) es

pub in_count_rows : (k : ℕ) → expr_within k expr.CountRows ≡ true
unfolding expr_within
in_count_rows k = refl

pub in_scalar : (k : ℕ) (q : Query) → expr_within k (expr.Scalar q) ≡ query_within k q
unfolding expr_within query_within
in_scalar k q = eq.of_scalar (placing k) q

pub in_exists : (k : ℕ) (q : Query) → expr_within k (expr.Exists q) ≡ query_within k q
unfolding expr_within query_within
in_exists k q = eq.of_exists (placing k) q

-- ---- along lists

pub exprs_none : (k : ℕ) → all_exprs k [] ≡ true
unfolding all_exprs
exprs_none k = refl

pub exprs_more : (k : ℕ) (x : Expr) (xs : List Expr) → all_exprs k (x ∷ xs) ≡ (expr_within k x && all_exprs k xs)
unfolding all_exprs
exprs_more k x xs = refl

pub links_none : (k : ℕ) → all_links k [] ≡ true
unfolding all_links
links_none k = refl

pub links_more : (k : ℕ) (x : ChainOp × Expr) (xs : List (ChainOp × Expr)) → all_links k (x ∷ xs) ≡ (expr_within k x.1 && all_links k xs)
unfolding all_links
links_more k x xs = refl

pub arms_none : (k : ℕ) → all_arms k [] ≡ true
unfolding all_arms
arms_none k = refl

pub arms_more : (k : ℕ) (x : Expr × Expr) (xs : List (Expr × Expr)) → all_arms k (x ∷ xs) ≡ ((expr_within k x.0 && expr_within k x.1) && all_arms k xs)
unfolding all_arms
arms_more k x xs = refl

pub other_none : (k : ℕ) → other_within k None ≡ true
unfolding other_within
other_none k = refl

pub other_some : (k : ℕ) (e : Expr) → other_within k (Some e) ≡ expr_within k e
unfolding other_within
other_some k e = refl

pub optional_none : (k : ℕ) → optional_within k None ≡ true
unfolding optional_within
optional_none k = refl

pub optional_some : (k : ℕ) (e : Expr) → optional_within k (Some e) ≡ expr_within k e
unfolding optional_within
optional_some k e = refl

pub items_none : (k : ℕ) → all_items k [] ≡ true
unfolding all_items
items_none k = refl

pub items_more : (k : ℕ) (x : Item) (xs : List Item) → all_items k (x ∷ xs) ≡ (expr_within k (out-Item x).expr && all_items k xs)
unfolding all_items expr_within
items_more k x xs = refl

pub keys_none : (k : ℕ) → all_keys k [] ≡ true
unfolding all_keys
keys_none k = refl

pub keys_more : (k : ℕ) (x : Key) (xs : List Key) → all_keys k (x ∷ xs) ≡ (expr_within k (out-Key x).expr && all_keys k xs)
unfolding all_keys expr_within
keys_more k x xs = refl

pub froms_none : (k : ℕ) → all_froms k [] ≡ true
unfolding all_froms
froms_none k = refl

pub froms_more : (k : ℕ) (x : FromItem) (xs : List FromItem) → all_froms k (x ∷ xs) ≡ (from_within k x && all_froms k xs)
unfolding all_froms
froms_more k x xs = refl

pub selects_none : (k : ℕ) → all_selects k [] ≡ true
unfolding all_selects
selects_none k = refl

pub selects_more : (k : ℕ) (x : Select) (xs : List Select) → all_selects k (x ∷ xs) ≡ (select_within k x && all_selects k xs)
unfolding all_selects
selects_more k x xs = refl

-- ---- FROM, selects and queries

pub from_table : (k : ℕ) (f : FromItem) (name : List ℕ) → (out-FromItem f).source ≡ source.Table name → from_within k f ≡ nat_lt (place_of (out-FromItem f).columns) k
unfolding from_within
from_table k f name h = ap (λ s. source_of (placing k) s (out-FromItem f).columns) h

pub from_query : (k : ℕ) (f : FromItem) (q : Query) (lateral : Bool) → (out-FromItem f).source ≡ source.Sub q lateral → from_within k f ≡ query_within k q
unfolding from_within query_within
from_query k f q lateral h = ap (λ s. source_of (placing k) s (out-FromItem f).columns) h ∙ ap (λ s. s (out-FromItem f).columns) (eq.of_sub (placing k) q lateral)

pub stands_table : (k : ℕ) (f : FromItem) (name : List ℕ) → (out-FromItem f).source ≡ source.Table name → stands_at k f ≡ source_stands k (out-FromItem f).columns (source.Table name)
unfolding stands_at
stands_table k f name h = ap (source_stands k (out-FromItem f).columns) h

pub stands_query : (k : ℕ) (f : FromItem) (q : Query) (lateral : Bool) → (out-FromItem f).source ≡ source.Sub q lateral → stands_at k f ≡ false
unfolding stands_at
stands_query k f q lateral h = ap (source_stands k (out-FromItem f).columns) h

in_optional : (k : ℕ) (o : Option Expr) → true_or_none (option_map (λ e. expr_of (placing k) e) o) ≡ optional_within k o
unfolding optional_within expr_within
in_optional k None = refl
in_optional k (Some e) = refl

in_items : (k : ℕ) (list : List Item) → all_true (map (λ x. item_of (placing k) x) list) ≡ all_items k list
unfolding all_items
in_items k list = all_map (λ (b : Bool). b) (λ (x : Item). item_of (placing k) x) list

in_froms : (k : ℕ) (list : List FromItem) → all_true (map (λ x. from_of (placing k) x) list) ≡ all_froms k list
unfolding all_froms from_within
in_froms k list = all_map (λ (b : Bool). b) (λ (x : FromItem). from_of (placing k) x) list

in_keys : (k : ℕ) (list : List Key) → all_true (map (λ x. key_of (placing k) x) list) ≡ all_keys k list
unfolding all_keys
in_keys k list = all_map (λ (b : Bool). b) (λ (x : Key). key_of (placing k) x) list

pub in_select : (k : ℕ) (s : Select) → select_within k s ≡ (all_items k (out-Select s).list && (all_froms k (out-Select s).from && (optional_within k (out-Select s).filter && (all_keys k (out-Select s).order && optional_within k (out-Select s).limit))))
unfolding select_within
in_select k s =
    eq.select_is (placing k) s
    ∙ (λ i. in_items k (out-Select s).list i && (in_froms k (out-Select s).from i && (in_optional k (out-Select s).filter i && (in_keys k (out-Select s).order i && in_optional k (out-Select s).limit i))))

pub in_query : (k : ℕ) (q : Query) → query_within k q ≡ all_selects k (out-Query q).selects
unfolding query_within all_selects select_within
in_query k q = eq.query_is (placing k) q ∙ all_map (λ (b : Bool). b) (λ (x : Select). select_of (placing k) x) (out-Query q).selects

pub suited_is : (k : ℕ) (s : Select) → is_suited k s ≡ (stands_alone k (out-Select s).from && (all_items k (out-Select s).list && (optional_within k (out-Select s).filter && (all_keys k (out-Select s).order && optional_within k (out-Select s).limit))))
unfolding is_suited
suited_is k s = refl

pub ruleset below_rules = (in_int, in_str, in_bool, in_null, in_named, in_qualified, in_slot, in_column, in_param, in_neg, in_neg_small, in_not, in_is, in_chain, in_compare, in_between, in_one_of, in_cast, in_cases, in_call, in_count_rows, in_scalar, in_exists)

pub ruleset all_rules = (next_item, none_left, exprs_none, exprs_more, links_none, links_more, arms_none, arms_more, other_none, other_some, optional_none, optional_some, items_none, items_more, keys_none, keys_more, froms_none, froms_more, selects_none, selects_more)

pub ruleset from_rules = (from_table, from_query, stands_table, stands_query)

pub ruleset select_rules = (in_select)

pub ruleset query_rules = (in_query)

pub ruleset suited_rules = (suited_is)
