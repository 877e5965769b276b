-- A tree with other names for its variables, by its parts.
use Rattle.std.proofs.Common.{◌≡◌, refl, ap, sym, ◌∙◌, ℕ, ℤ, Bool, List, map, Option, option_map}
use Rattle.away_values.specs.declared.types.Ty.{Ty}
use Rattle.away_trees.specs.declared.queries.Col.{Col}
use Rattle.away_values.specs.declared.operators.ChainOp.{ChainOp}
use Rattle.away_values.specs.declared.operators.CmpOp.{CmpOp}
use Rattle.away_values.specs.declared.operators.IsTest.{IsTest}
use Rattle.away_trees.specs.declared.queries.Expr.{Expr}
use Rattle.away_trees.specs.declared.queries.Expr.TheVariants as expr
use Rattle.away_trees.specs.declared.queries.Source.TheVariants as source
use Rattle.away_trees.specs.declared.queries.FromItem.{FromItem}
use Rattle.away_trees.specs.declared.queries.Item.{Item}
use Rattle.away_trees.specs.declared.queries.Key.{Key}
use Rattle.away_trees.specs.declared.queries.Select.{Select}
use Rattle.away_trees.specs.declared.queries.Recursive.{Recursive}
use Rattle.away_trees.specs.declared.queries.Query.{Query}
use Rattle.away_trees.specs.declared.queries.Expr.TheViews.{out-Item, out-FromItem, out-Key, out-Select, out-Recursive, out-Query, roll-Item, roll-FromItem, roll-Key, roll-Select, roll-Recursive, roll-Query}
use Rattle.away_trees.specs.declared.queries.Expr.TheViews as view
use Rattle.away_trees.specs.Algebra.{recursive_of}
use Rattle.away_trees.proofs.Equations as e
use Rattle.away_names.specs.Lookups.{Name}
use Rattle.moved_names.specs.Renaming.{renaming}
use Rattle.moved_names.specs.Renamed.{renamed_expr, renamed_source, renamed_part, renamed_item, renamed_key, renamed_select, renamed_recursive, renamed_query, renamed_link, renamed_arm}

-- ---- expressions

pub int_is : (to : Name → Name) (x : ℤ) → renamed_expr to (expr.Int x) ≡ expr.Int x
unfolding renamed_expr
int_is to x = refl

pub str_is : (to : Name → Name) (x : List ℕ) → renamed_expr to (expr.Str x) ≡ expr.Str x
unfolding renamed_expr
str_is to x = refl

pub bool_is : (to : Name → Name) (x : Bool) → renamed_expr to (expr.Bool x) ≡ expr.Bool x
unfolding renamed_expr
bool_is to x = refl

pub null_is : (to : Name → Name) → renamed_expr to expr.Null ≡ expr.Null
unfolding renamed_expr
null_is to = refl

pub named_is : (to : Name → Name) (x : Name) → renamed_expr to (expr.Named x) ≡ expr.Named (to x)
unfolding renamed_expr
named_is to x = refl

pub qualified_is : (to : Name → Name) (a x : Name) → renamed_expr to (expr.Dotted a x) ≡ expr.Dotted a x
unfolding renamed_expr
qualified_is to a x = refl

pub slot_is : (to : Name → Name) (i : ℕ) → renamed_expr to (expr.Slot i) ≡ expr.Slot i
unfolding renamed_expr
slot_is to i = refl

pub column_is : (to : Name → Name) (c : Col) → renamed_expr to (expr.Column c) ≡ expr.Column c
unfolding renamed_expr
column_is to c = refl

pub param_is : (to : Name → Name) (i : ℕ) (t : Ty) → renamed_expr to (expr.Param i t) ≡ expr.Param i t
unfolding renamed_expr
param_is to i t = refl

pub neg_is : (to : Name → Name) (x : Expr) → renamed_expr to (expr.Neg x) ≡ expr.Neg (renamed_expr to x)
unfolding renamed_expr
neg_is to x = e.of_neg (renaming to) x

pub negsmall_is : (to : Name → Name) (x : Expr) → renamed_expr to (expr.NegSmall x) ≡ expr.NegSmall (renamed_expr to x)
unfolding renamed_expr
negsmall_is to x = e.of_negsmall (renaming to) x

pub not_is : (to : Name → Name) (x : Expr) → renamed_expr to (expr.Not x) ≡ expr.Not (renamed_expr to x)
unfolding renamed_expr
not_is to x = e.of_not (renaming to) x

pub is_is : (to : Name → Name) (x : Expr) (t : IsTest) (v : Bool) → renamed_expr to (expr.Is x t v) ≡ expr.Is (renamed_expr to x) t v
unfolding renamed_expr
is_is to x t v = e.of_is (renaming to) x t v

pub cast_is : (to : Name → Name) (x : Expr) (t : Ty) → renamed_expr to (expr.Cast x t) ≡ expr.Cast (renamed_expr to x) t
unfolding renamed_expr
cast_is to x t = e.of_cast (renaming to) x t

pub chain_is : (to : Name → Name) (x : Expr) (ls : List (ChainOp × Expr)) → renamed_expr to (expr.Chain x ls) ≡ expr.Chain (renamed_expr to x) (map (renamed_link to) ls)
unfolding renamed_expr
chain_is to x ls = e.of_chain (renaming to) x ls

pub compare_is : (to : Name → Name) (op : CmpOp) (x y : Expr) → renamed_expr to (expr.Compare op x y) ≡ expr.Compare op (renamed_expr to x) (renamed_expr to y)
unfolding renamed_expr
compare_is to op x y = e.of_compare (renaming to) op x y

pub between_is : (to : Name → Name) (v : Bool) (x y z : Expr) → renamed_expr to (expr.Between v x y z) ≡ expr.Between v (renamed_expr to x) (renamed_expr to y) (renamed_expr to z)
unfolding renamed_expr
between_is to v x y z = e.of_between (renaming to) v x y z

pub oneof_is : (to : Name → Name) (v : Bool) (x : Expr) (es : List Expr) → renamed_expr to (expr.OneOf v x es) ≡ expr.OneOf v (renamed_expr to x) (map (renamed_expr to) es)
unfolding renamed_expr
oneof_is to v x es = e.of_oneof (renaming to) v x es

pub cases_is : (to : Name → Name) (as_ : List (Expr × Expr)) (o : Option Expr) → renamed_expr to (expr.Cases as_ o) ≡ expr.Cases (map (renamed_arm to) as_) (option_map (renamed_expr to) o)
unfolding renamed_expr
cases_is to as_ o = e.of_cases (renaming to) as_ o

pub call_is : (to : Name → Name) (x : Name) (es : List Expr) → renamed_expr to (expr.Call x es) ≡ expr.Call x (map (renamed_expr to) es)
unfolding renamed_expr
call_is to x es = e.of_call (renaming to) x es

pub countrows_is : (to : Name → Name) → renamed_expr to expr.CountRows ≡ expr.CountRows
unfolding renamed_expr
countrows_is to = refl

pub scalar_is : (to : Name → Name) (q : Query) → renamed_expr to (expr.Scalar q) ≡ expr.Scalar (renamed_query to q)
unfolding renamed_expr renamed_query
scalar_is to q = e.of_scalar (renaming to) q

pub exists_is : (to : Name → Name) (q : Query) → renamed_expr to (expr.Exists q) ≡ expr.Exists (renamed_query to q)
unfolding renamed_expr renamed_query
exists_is to q = e.of_exists (renaming to) q

pub ruleset leaf_rules = (int_is, str_is, bool_is, null_is, named_is, qualified_is, slot_is, column_is, param_is, countrows_is)

pub ruleset one_part_rules = (neg_is, negsmall_is, not_is, is_is, cast_is, scalar_is, exists_is)

pub ruleset parts_rules = (chain_is, compare_is, between_is, oneof_is, cases_is, call_is)

-- ---- FROM

pub table_is : (to : Name → Name) (x : Name) → renamed_source to (source.Table x) ≡ source.Table x
unfolding renamed_source
table_is to x = refl

pub sub_is : (to : Name → Name) (q : Query) (lateral : Bool) → renamed_source to (source.Sub q lateral) ≡ source.Sub (renamed_query to q) lateral
unfolding renamed_source renamed_query
sub_is to q lateral = e.of_sub (renaming to) q lateral

pub ruleset source_rules = (table_is, sub_is)

pub part_rule : (to : Name → Name) (f : FromItem) → renamed_part to f ≡ roll-FromItem (record { source = renamed_source to (out-FromItem f).source; alias = (out-FromItem f).alias; columns = (out-FromItem f).columns })
unfolding renamed_part renamed_source
part_rule to f = refl

-- ---- selects and queries

pub item_rule : (to : Name → Name) (i : Item) → renamed_item to i ≡ roll-Item (record { expr = renamed_expr to (out-Item i).expr; alias = (out-Item i).alias })
unfolding renamed_item renamed_expr
item_rule to i = refl

pub key_rule : (to : Name → Name) (k : Key) → renamed_key to k ≡ roll-Key (record { expr = renamed_expr to (out-Key k).expr; descending = (out-Key k).descending })
unfolding renamed_key renamed_expr
key_rule to k = refl

pub select_rule : (to : Name → Name) (x : Select) → renamed_select to x ≡ roll-Select (record { list = map (renamed_item to) (out-Select x).list; from = map (renamed_part to) (out-Select x).from; filter = option_map (renamed_expr to) (out-Select x).filter; order = map (renamed_key to) (out-Select x).order; limit = option_map (renamed_expr to) (out-Select x).limit })
unfolding renamed_select renamed_item renamed_part renamed_key renamed_expr
select_rule to x = e.select_is (renaming to) x

pub query_rule : (to : Name → Name) (q : Query) → renamed_query to q ≡ roll-Query (record { recursive = option_map (renamed_recursive to) (out-Query q).recursive; selects = map (renamed_select to) (out-Query q).selects })
unfolding renamed_query renamed_recursive renamed_select
query_rule to q = e.query_is (renaming to) q

pub recursive_rule : (to : Name → Name) (r : Recursive) → renamed_recursive to r ≡ roll-Recursive (record { name = (out-Recursive r).name; columns = (out-Recursive r).columns; first = map (renamed_select to) (out-Recursive r).first; second = renamed_select to (out-Recursive r).second })
unfolding renamed_recursive renamed_select
recursive_rule to r = ap (λ x. recursive_of (renaming to) x) (sym (view.roll-out-Recursive r)) ∙ e.of_recursive (renaming to) (out-Recursive r).name (out-Recursive r).columns (out-Recursive r).first (out-Recursive r).second
