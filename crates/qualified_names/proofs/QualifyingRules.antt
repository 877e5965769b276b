-- A tree with names again, by its parts.
use Rattle.std.proofs.Common.{◌≡◌, refl, ap, sym, ◌∙◌, ℕ, ℤ, Bool, List, [], ◌∷◌, map, drop, Option, Some, None, option_map}
use Rattle.away_values.specs.declared.types.Ty.{Ty}
use Rattle.away_trees.specs.declared.queries.Col.{Col}
use Rattle.away_values.specs.declared.operators.ChainOp.{ChainOp}
use Rattle.away_values.specs.declared.operators.CmpOp.{CmpOp}
use Rattle.away_values.specs.declared.operators.IsTest.{IsTest}
use Rattle.away_trees.specs.declared.queries.Expr.{Expr}
use Rattle.away_trees.specs.declared.queries.Expr.TheVariants as expr
use Rattle.away_trees.specs.declared.queries.Source.TheVariants as source
use Rattle.away_trees.specs.declared.queries.FromItem.{FromItem}
use Rattle.away_trees.specs.declared.queries.Item.{Item}
use Rattle.away_trees.specs.declared.queries.Key.{Key}
use Rattle.away_trees.specs.declared.queries.Select.{Select}
use Rattle.away_trees.specs.declared.queries.Recursive.{Recursive}
use Rattle.away_trees.specs.declared.queries.Query.{Query}
use Rattle.away_trees.specs.declared.queries.Expr.TheViews.{out-Item, out-FromItem, out-Key, out-Select, out-Recursive, out-Query, roll-Key, roll-Recursive}
use Rattle.away_trees.specs.declared.queries.Expr.TheViews as view
use Rattle.away_trees.specs.Algebra.{expr_of, item_of, key_of, from_of, select_of, recursive_of}
use Rattle.away_trees.proofs.Equations as e
use Rattle.away_names.specs.Lookups.{Name, Level}
use Rattle.away_names.specs.Naming.{plain_names, before, shaped, of_query}
use Rattle.away_names.proofs.NamingRules.{fold_map, map_map}
use Rattle.elaboration.specs.Marks.{plain_op}
use Rattle.qualified_names.specs.Sight.{Sight, reference}
use Rattle.qualified_names.specs.Qualifying as d
use Rattle.qualified_names.specs.Qualifying.{qualifying}
use Rattle.qualified_names.specs.Trees.{qualified_expr, qualified_item, qualified_key, qualified_source, qualified_part, qualified_select, qualified_recursive, qualified_shown, qualified_in, qualified_link, qualified_arm, qualified_items, qualified_keys, qualified_selects, qualified_from, qualified_over}

-- ---- lists

all_in : (s : Sight) (es : List Expr) → map (λ t. t s) (map (λ x. expr_of qualifying x) es) ≡ map (qualified_in s) es
unfolding qualified_expr
all_in s es = map_map _ _ es

all_links : (s : Sight) (ls : List (ChainOp × Expr)) → map (λ (l : ChainOp × d.Term). (plain_op l.0, l.1 s)) (map (λ l. (l.0, expr_of qualifying l.1)) ls) ≡ map (qualified_link s) ls
unfolding qualified_expr
all_links s ls = map_map _ _ ls

all_arms : (s : Sight) (as_ : List (Expr × Expr)) → map (λ (a : d.Term × d.Term). (a.0 s, a.1 s)) (map (λ x. (expr_of qualifying x.0, expr_of qualifying x.1)) as_) ≡ map (qualified_arm s) as_
unfolding qualified_expr
all_arms s as_ = map_map _ _ as_

maybe_in : (s : Sight) (o : Option Expr) → option_map (λ t. t s) (option_map (λ x. expr_of qualifying x) o) ≡ option_map (qualified_in s) o
unfolding qualified_expr
maybe_in s None = refl
maybe_in s (Some x) = refl

-- ---- expressions

pub int_is : (x : ℤ) (s : Sight) → qualified_expr (expr.Int x) s ≡ expr.Int x
unfolding qualified_expr
int_is x s = refl

pub str_is : (x : List ℕ) (s : Sight) → qualified_expr (expr.Str x) s ≡ expr.Str x
unfolding qualified_expr
str_is x s = refl

pub bool_is : (x : Bool) (s : Sight) → qualified_expr (expr.Bool x) s ≡ expr.Bool x
unfolding qualified_expr
bool_is x s = refl

pub null_is : (s : Sight) → qualified_expr expr.Null s ≡ expr.Null
unfolding qualified_expr
null_is s = refl

pub named_is : (x : Name) (s : Sight) → qualified_expr (expr.Named x) s ≡ expr.Named x
unfolding qualified_expr
named_is x s = refl

pub qualified_is : (a x : Name) (s : Sight) → qualified_expr (expr.Dotted a x) s ≡ expr.Dotted a x
unfolding qualified_expr
qualified_is a x s = refl

pub slot_is : (i : ℕ) (s : Sight) → qualified_expr (expr.Slot i) s ≡ expr.Slot i
unfolding qualified_expr
slot_is i s = refl

pub column_is : (c : Col) (s : Sight) → qualified_expr (expr.Column c) s ≡ reference s c
unfolding qualified_expr
column_is c s = refl

pub param_is : (i : ℕ) (t : Ty) (s : Sight) → qualified_expr (expr.Param i t) s ≡ expr.Param i t
unfolding qualified_expr
param_is i t s = refl

pub neg_is : (x : Expr) (s : Sight) → qualified_expr (expr.Neg x) s ≡ expr.Neg (qualified_expr x s)
unfolding qualified_expr
neg_is x s = ap (λ t. t s) (e.of_neg qualifying x)

pub negsmall_is : (x : Expr) (s : Sight) → qualified_expr (expr.NegSmall x) s ≡ expr.Neg (qualified_expr x s)
unfolding qualified_expr
negsmall_is x s = ap (λ t. t s) (e.of_negsmall qualifying x)

pub not_is : (x : Expr) (s : Sight) → qualified_expr (expr.Not x) s ≡ expr.Not (qualified_expr x s)
unfolding qualified_expr
not_is x s = ap (λ t. t s) (e.of_not qualifying x)

pub is_is : (x : Expr) (t : IsTest) (v : Bool) (s : Sight) → qualified_expr (expr.Is x t v) s ≡ expr.Is (qualified_expr x s) t v
unfolding qualified_expr
is_is x t v s = ap (λ t. t s) (e.of_is qualifying x t v)

pub cast_is : (x : Expr) (t : Ty) (s : Sight) → qualified_expr (expr.Cast x t) s ≡ expr.Cast (qualified_expr x s) t
unfolding qualified_expr
cast_is x t s = ap (λ t. t s) (e.of_cast qualifying x t)

pub chain_is : (x : Expr) (ls : List (ChainOp × Expr)) (s : Sight) → qualified_expr (expr.Chain x ls) s ≡ expr.Chain (qualified_expr x s) (map (qualified_link s) ls)
unfolding qualified_expr
chain_is x ls s = ap (λ t. t s) (e.of_chain qualifying x ls) ∙ ap (λ y. expr.Chain (qualified_expr x s) y) (all_links s ls)

pub compare_is : (op : CmpOp) (x y : Expr) (s : Sight) → qualified_expr (expr.Compare op x y) s ≡ expr.Compare op (qualified_expr x s) (qualified_expr y s)
unfolding qualified_expr
compare_is op x y s = ap (λ t. t s) (e.of_compare qualifying op x y)

pub between_is : (v : Bool) (x y z : Expr) (s : Sight) → qualified_expr (expr.Between v x y z) s ≡ expr.Between v (qualified_expr x s) (qualified_expr y s) (qualified_expr z s)
unfolding qualified_expr
between_is v x y z s = ap (λ t. t s) (e.of_between qualifying v x y z)

pub oneof_is : (v : Bool) (x : Expr) (es : List Expr) (s : Sight) → qualified_expr (expr.OneOf v x es) s ≡ expr.OneOf v (qualified_expr x s) (map (qualified_in s) es)
unfolding qualified_expr
oneof_is v x es s = ap (λ t. t s) (e.of_oneof qualifying v x es) ∙ ap (λ y. expr.OneOf v (qualified_expr x s) y) (all_in s es)

pub cases_is : (as_ : List (Expr × Expr)) (o : Option Expr) (s : Sight) → qualified_expr (expr.Cases as_ o) s ≡ expr.Cases (map (qualified_arm s) as_) (option_map (qualified_in s) o)
unfolding qualified_expr
cases_is as_ o s = ap (λ t. t s) (e.of_cases qualifying as_ o) ∙ (λ i. expr.Cases (all_arms s as_ i) (maybe_in s o i))

pub call_is : (x : Name) (es : List Expr) (s : Sight) → qualified_expr (expr.Call x es) s ≡ expr.Call x (map (qualified_in s) es)
unfolding qualified_expr
call_is x es s = ap (λ t. t s) (e.of_call qualifying x es) ∙ ap (λ y. expr.Call x y) (all_in s es)

pub countrows_is : (s : Sight) → qualified_expr expr.CountRows s ≡ expr.CountRows
unfolding qualified_expr
countrows_is s = refl

pub scalar_is : (q : Query) (s : Sight) → qualified_expr (expr.Scalar q) s ≡ expr.Scalar (qualified_shown q s).it
unfolding qualified_expr qualified_shown
scalar_is q s = ap (λ t. t s) (e.of_scalar qualifying q)

pub exists_is : (q : Query) (s : Sight) → qualified_expr (expr.Exists q) s ≡ expr.Exists (qualified_shown q s).it
unfolding qualified_expr qualified_shown
exists_is q s = ap (λ t. t s) (e.of_exists qualifying q)

pub ruleset qualifying_rules = (int_is, str_is, bool_is, null_is, named_is, qualified_is, slot_is, column_is, param_is, neg_is, negsmall_is, not_is, is_is, cast_is, chain_is, compare_is, between_is, oneof_is, cases_is, call_is, countrows_is, scalar_is, exists_is)

-- ---- FROM

pub table_is : (x : Name) (columns : List Name) (s : Sight) (level : Level) → qualified_source (source.Table x) columns s level ≡ record { source = source.Table x; columns = []; names = plain_names (drop 1 columns) }
unfolding qualified_source
table_is x columns s level = refl

pub sub_is : (q : Query) (lateral : Bool) (columns : List Name) (s : Sight) (level : Level) → qualified_source (source.Sub q lateral) columns s level ≡ of_query lateral columns (qualified_shown q (before lateral level ∷ s))
unfolding qualified_source qualified_shown
sub_is q lateral columns s level = ap (λ o. o columns s level) (e.of_sub qualifying q lateral)

pub ruleset source_rules = (table_is, sub_is)

pub part_rule : (f : FromItem) (s : Sight) (level : Level) → qualified_part f s level ≡ shaped (out-FromItem f).alias (qualified_source (out-FromItem f).source (out-FromItem f).columns s level)
unfolding qualified_part qualified_source
part_rule f s level = refl

all_from : (s : Sight) (fs : List FromItem) → d.framed s (map (λ x. from_of qualifying x) fs) ≡ qualified_from s fs
unfolding qualified_part
all_from s fs = fold_map _ _ _ fs

-- ---- selects

pub item_rule : (i : Item) (s : Sight) → qualified_item i s ≡ d.entry_of (out-Item i).alias (qualified_expr (out-Item i).expr s)
unfolding qualified_item qualified_expr
item_rule i s = refl

pub key_rule : (k : Key) (s : Sight) → qualified_key k s ≡ roll-Key (record { expr = qualified_expr (out-Key k).expr s; descending = (out-Key k).descending })
unfolding qualified_key qualified_expr
key_rule k s = refl

all_items : (s : Sight) (list : List Item) → d.listed (map (λ i. i s) (map (λ x. item_of qualifying x) list)) ≡ qualified_items s list
unfolding qualified_item
all_items s list = ap d.listed (map_map _ _ list)

all_keys : (s : Sight) (keys : List Key) → map (λ k. k s) (map (λ x. key_of qualifying x) keys) ≡ qualified_keys s keys
unfolding qualified_key
all_keys s keys = map_map _ _ keys

over_is : (x : Select) (s : Sight) (from : List FromItem) →
    d.select_of from (d.listed (map (λ i. i s) (map (λ x. item_of qualifying x) (out-Select x).list))) (option_map (λ t. t s) (option_map (λ x. expr_of qualifying x) (out-Select x).filter))
    (map (λ k. k s) (map (λ x. key_of qualifying x) (out-Select x).order)) (option_map (λ t. t s) (option_map (λ x. expr_of qualifying x) (out-Select x).limit))
    ≡ qualified_over (out-Select x) s from
over_is x s from = λ i. d.select_of from (all_items s (out-Select x).list i) (maybe_in s (out-Select x).filter i) (all_keys s (out-Select x).order i) (maybe_in s (out-Select x).limit i)

pub select_rule : (x : Select) (s : Sight) →
    qualified_select x s ≡ qualified_over (out-Select x) ((qualified_from s (out-Select x).from).seen ∷ s) (qualified_from s (out-Select x).from).items
unfolding qualified_select
select_rule x s =
    let from = qualified_from s (out-Select x).from in
    ap (λ l. l s) (e.select_is qualifying x)
    ∙ (ap (λ fr. d.over (record { list = map (λ x. item_of qualifying x) (out-Select x).list; from = map (λ x. from_of qualifying x) (out-Select x).from; filter = option_map (λ x. expr_of qualifying x) (out-Select x).filter; order = map (λ x. key_of qualifying x) (out-Select x).order; limit = option_map (λ x. expr_of qualifying x) (out-Select x).limit }) (fr.seen ∷ s) fr.items)
    (all_from s (out-Select x).from)
    ∙ over_is x (from.seen ∷ s) from.items)

all_selects : (s : Sight) (xs : List Select) → d.united (map (λ x. x s) (map (λ x. select_of qualifying x) xs)) ≡ qualified_selects s xs
unfolding qualified_select
all_selects s xs = ap d.united (map_map _ _ xs)

-- ---- queries

maybe_recursive : (s : Sight) (o : Option Recursive) → option_map (λ r. r s) (option_map (λ r. recursive_of qualifying r) o) ≡ option_map (λ r. qualified_recursive r s) o
unfolding qualified_recursive
maybe_recursive s None = refl
maybe_recursive s (Some r) = refl

pub query_rule : (q : Query) (s : Sight) →
    qualified_shown q s ≡ d.query_of (option_map (λ r. qualified_recursive r s) (out-Query q).recursive) (qualified_selects s (out-Query q).selects)
unfolding qualified_shown
query_rule q s =
    ap (λ w. w s) (e.query_is qualifying q)
    ∙ (λ i. d.query_of (maybe_recursive s (out-Query q).recursive i) (all_selects s (out-Query q).selects i))

its : (s : Sight) (xs : List Select) → map (λ x. (x s).it) (map (λ x. select_of qualifying x) xs) ≡ (qualified_selects s xs).it
unfolding qualified_select
its s xs = map_map _ _ xs ∙ sym (map_map _ _ xs)

pub recursive_rule : (r : Recursive) (s : Sight) →
    qualified_recursive r s
    ≡ roll-Recursive (record { name = (out-Recursive r).name; columns = (out-Recursive r).columns; first = (qualified_selects s (out-Recursive r).first).it; second = (qualified_select (out-Recursive r).second s).it })
unfolding qualified_recursive qualified_select
recursive_rule r s =
    ap (λ x. recursive_of qualifying x s) (sym (view.roll-out-Recursive r))
    ∙ (ap (λ t. t s) (e.of_recursive qualifying (out-Recursive r).name (out-Recursive r).columns (out-Recursive r).first (out-Recursive r).second)
    ∙ ap (λ xs. roll-Recursive (record { name = (out-Recursive r).name; columns = (out-Recursive r).columns; first = xs; second = (select_of qualifying (out-Recursive r).second s).it })) (its s (out-Recursive r).first))
