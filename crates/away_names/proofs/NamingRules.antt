-- What names stand for at a node, by its parts.
use Rattle.std.proofs.Common.{◌≡◌, refl, ap, ◌∙◌, ℕ, ℤ, Bool, List, [], ◌∷◌, map, fold, Option, Some, None, option_map}
use Rattle.std.specs.Prelude.{is_some}
use Rattle.away_values.specs.declared.types.Ty.{Ty}
use Rattle.away_trees.specs.declared.queries.Col.{Col}
use Rattle.away_values.specs.declared.operators.ChainOp.{ChainOp}
use Rattle.away_values.specs.declared.operators.CmpOp.{CmpOp}
use Rattle.away_values.specs.declared.operators.IsTest.{IsTest}
use Rattle.away_trees.specs.declared.queries.Expr.{Expr}
use Rattle.away_trees.specs.declared.queries.Expr.TheVariants as expr
use Rattle.away_trees.specs.declared.queries.Expr.TheBlock as b
use Rattle.away_trees.specs.declared.queries.Source.TheVariants as source
use Rattle.away_trees.specs.declared.queries.FromItem.{FromItem}
use Rattle.away_trees.specs.declared.queries.Item.{Item}
use Rattle.away_trees.specs.declared.queries.Key.{Key}
use Rattle.away_trees.specs.declared.queries.Select.{Select}
use Rattle.away_trees.specs.declared.queries.Query.{Query}
use Rattle.away_trees.specs.declared.queries.Expr.TheViews.{out-Item, out-FromItem, out-Key, out-Select, out-Query, roll-Key}
use Rattle.away_trees.specs.Algebra.{expr_of, item_of, key_of, from_of, select_of, recursive_of}
use Rattle.away_trees.proofs.Equations as e
use Rattle.away_names.specs.declared.rule.Rule.TheVariants as rule
use Rattle.away_names.specs.Notes.{pure, noted, breaks, joined, mapped, also, paired, each, held}
use Rattle.away_names.specs.Lookups.{Name, Level, Scope, inside, has_double}
use Rattle.away_names.specs.Naming as n
use Rattle.away_names.specs.Naming.{naming}
use Rattle.away_names.specs.Trees.{named_expr, named_item, named_key, named_source, named_part, named_select, named_query, last_of, alone_of}
use Rattle.away_names.specs.NamingLists.{named_in, named_link, named_arm, named_key_in, named_items, named_selects, named_from, named_over}

-- ---- lists

pub fold_map : {A B C : Type 0} (f : C → B → C) (g : A → B) (c : C) (xs : List A) → fold f c (map g xs) ≡ fold (λ c x. f c (g x)) c xs
fold_map f g c [] = refl
fold_map f g c (x ∷ xs) = fold_map f g (f c (g x)) xs

all_in : (s : Scope) (es : List Expr) → each (λ t. t.judge s) (map (λ x. expr_of naming x) es) ≡ each (named_in s) es
unfolding named_expr
all_in s es = fold_map _ _ _ es

all_links : (s : Scope) (ls : List (ChainOp × Expr)) → each (n.linked s) (map (λ l. (l.0, expr_of naming l.1)) ls) ≡ each (named_link s) ls
unfolding named_expr
all_links s ls = fold_map _ _ _ ls

all_arms : (s : Scope) (as_ : List (Expr × Expr)) → each (n.armed s) (map (λ x. (expr_of naming x.0, expr_of naming x.1)) as_) ≡ each (named_arm s) as_
unfolding named_expr
all_arms s as_ = fold_map _ _ _ as_

maybe_in : (s : Scope) (o : Option Expr) → held (λ t. t.judge s) (option_map (λ x. expr_of naming x) o) ≡ held (named_in s) o
unfolding named_expr
maybe_in s None = refl
maybe_in s (Some x) = refl

-- ---- expressions

pub int_is : (x : ℤ) (s : Scope) → named_expr (expr.Int x) s ≡ pure (expr.Int x)
unfolding named_expr
int_is x s = refl

pub str_is : (x : List ℕ) (s : Scope) → named_expr (expr.Str x) s ≡ pure (expr.Str x)
unfolding named_expr
str_is x s = refl

pub bool_is : (x : Bool) (s : Scope) → named_expr (expr.Bool x) s ≡ pure (expr.Bool x)
unfolding named_expr
bool_is x s = refl

pub null_is : (s : Scope) → named_expr expr.Null s ≡ pure expr.Null
unfolding named_expr
null_is s = refl

pub named_is : (x : Name) (s : Scope) → named_expr (expr.Named x) s ≡ n.named x s
unfolding named_expr
named_is x s = refl

pub qualified_is : (a x : Name) (s : Scope) → named_expr (expr.Dotted a x) s ≡ n.qualified a x s
unfolding named_expr
qualified_is a x s = refl

pub slot_is : (i : ℕ) (s : Scope) → named_expr (expr.Slot i) s ≡ n.unwritten (expr.Slot i)
unfolding named_expr
slot_is i s = refl

pub column_is : (c : Col) (s : Scope) → named_expr (expr.Column c) s ≡ n.unwritten (expr.Column c)
unfolding named_expr
column_is c s = refl

pub param_is : (i : ℕ) (t : Ty) (s : Scope) → named_expr (expr.Param i t) s ≡ noted (breaks rule.Names s.in_function) (expr.Param i t)
unfolding named_expr
param_is i t s = refl

pub neg_is : (x : Expr) (s : Scope) → named_expr (expr.Neg x) s ≡ mapped (λ e. expr.Neg e) (named_expr x s)
unfolding named_expr
neg_is x s = ap (λ t. t.judge s) (e.of_neg naming x)

pub negsmall_is : (x : Expr) (s : Scope) → named_expr (expr.NegSmall x) s ≡ mapped (λ e. expr.NegSmall e) (named_expr x s)
unfolding named_expr
negsmall_is x s = ap (λ t. t.judge s) (e.of_negsmall naming x)

pub not_is : (x : Expr) (s : Scope) → named_expr (expr.Not x) s ≡ mapped (λ e. expr.Not e) (named_expr x s)
unfolding named_expr
not_is x s = ap (λ t. t.judge s) (e.of_not naming x)

pub is_is : (x : Expr) (t : IsTest) (v : Bool) (s : Scope) → named_expr (expr.Is x t v) s ≡ mapped (λ e. expr.Is e t v) (named_expr x s)
unfolding named_expr
is_is x t v s = ap (λ t. t.judge s) (e.of_is naming x t v)

pub cast_is : (x : Expr) (t : Ty) (s : Scope) → named_expr (expr.Cast x t) s ≡ mapped (λ e. expr.Cast e t) (named_expr x s)
unfolding named_expr
cast_is x t s = ap (λ t. t.judge s) (e.of_cast naming x t)

pub chain_is : (x : Expr) (ls : List (ChainOp × Expr)) (s : Scope) → named_expr (expr.Chain x ls) s ≡ paired (λ e links. expr.Chain e links) (named_expr x s) (each (named_link s) ls)
unfolding named_expr
chain_is x ls s = ap (λ t. t.judge s) (e.of_chain naming x ls) ∙ ap (λ y. paired (λ e links. expr.Chain e links) (named_expr x s) y) (all_links s ls)

pub compare_is : (op : CmpOp) (x y : Expr) (s : Scope) → named_expr (expr.Compare op x y) s ≡ paired (λ a b. expr.Compare op a b) (named_expr x s) (named_expr y s)
unfolding named_expr
compare_is op x y s = ap (λ t. t.judge s) (e.of_compare naming op x y)

pub between_is : (v : Bool) (x y z : Expr) (s : Scope) → named_expr (expr.Between v x y z) s ≡ paired (λ e (range : Expr × Expr). expr.Between v e range.0 range.1) (named_expr x s) (paired (λ low high. (low, high)) (named_expr y s) (named_expr z s))
unfolding named_expr
between_is v x y z s = ap (λ t. t.judge s) (e.of_between naming v x y z)

pub oneof_is : (v : Bool) (x : Expr) (es : List Expr) (s : Scope) → named_expr (expr.OneOf v x es) s ≡ paired (λ e choices. expr.OneOf v e choices) (named_expr x s) (each (named_in s) es)
unfolding named_expr
oneof_is v x es s = ap (λ t. t.judge s) (e.of_oneof naming v x es) ∙ ap (λ y. paired (λ e choices. expr.OneOf v e choices) (named_expr x s) y) (all_in s es)

pub cases_is : (as_ : List (Expr × Expr)) (o : Option Expr) (s : Scope) → named_expr (expr.Cases as_ o) s ≡ paired (λ arms other. expr.Cases arms other) (each (named_arm s) as_) (held (named_in s) o)
unfolding named_expr
cases_is as_ o s = ap (λ t. t.judge s) (e.of_cases naming as_ o) ∙ (λ i. paired (λ arms other. expr.Cases arms other) (all_arms s as_ i) (maybe_in s o i))

pub call_is : (x : Name) (es : List Expr) (s : Scope) → named_expr (expr.Call x es) s ≡ also (n.called s x) (mapped (λ es. expr.Call x es) (each (named_in s) es))
unfolding named_expr
call_is x es s = ap (λ t. t.judge s) (e.of_call naming x es) ∙ ap (λ y. also (n.called s x) (mapped (λ es. expr.Call x es) y)) (all_in s es)

pub countrows_is : (s : Scope) → named_expr expr.CountRows s ≡ pure expr.CountRows
unfolding named_expr
countrows_is s = refl

pub scalar_is : (q : Query) (s : Scope) → named_expr (expr.Scalar q) s ≡ mapped (λ q. expr.Scalar q.it) (named_query q s)
unfolding named_expr named_query
scalar_is q s = ap (λ t. t.judge s) (e.of_scalar naming q)

pub exists_is : (q : Query) (s : Scope) → named_expr (expr.Exists q) s ≡ mapped (λ q. expr.Exists q.it) (named_query q s)
unfolding named_expr named_query
exists_is q s = ap (λ t. t.judge s) (e.of_exists naming q)

pub ruleset naming_rules = (int_is, str_is, bool_is, null_is, named_is, qualified_is, slot_is, column_is, param_is, neg_is, negsmall_is, not_is, is_is, cast_is, chain_is, compare_is, between_is, oneof_is, cases_is, call_is, countrows_is, scalar_is, exists_is)

-- ---- FROM

pub table_is : (x : Name) (columns : List Name) (s : Scope) (level : Level) → named_source (source.Table x) columns s level ≡ also (n.written s x) (n.of_table x (s.table x))
unfolding named_source
table_is x columns s level = refl

pub sub_is : (q : Query) (lateral : Bool) (columns : List Name) (s : Scope) (level : Level) → named_source (source.Sub q lateral) columns s level ≡ mapped (n.of_query lateral columns) (named_query q (inside (n.before lateral level) s))
unfolding named_source named_query
sub_is q lateral columns s level = ap (λ o. o columns s level) (e.of_sub naming q lateral)

pub ruleset source_rules = (table_is, sub_is)

pub part_rule : (f : FromItem) (s : Scope) (level : Level) → named_part f s level ≡ also (n.part_note s (out-FromItem f).alias (out-FromItem f).columns) (mapped (n.shaped (out-FromItem f).alias) (named_source (out-FromItem f).source (out-FromItem f).columns s level))
unfolding named_part named_source
part_rule f s level = refl

all_from : (s : Scope) (fs : List FromItem) → n.framed s (map (λ x. from_of naming x) fs) ≡ named_from s fs
unfolding named_part
all_from s fs = fold_map _ _ _ fs

-- ---- selects

pub last_is : (x : Expr) → (expr_of naming x).last ≡ last_of x
unfolding last_of
last_is (b.Named x) = refl
last_is (b.Dotted a x) = refl
last_is _ = refl

pub alone_is : (x : Expr) → (expr_of naming x).alone ≡ alone_of x
unfolding alone_of
alone_is (b.Named x) = refl
alone_is _ = refl

pub item_rule : (i : Item) (s : Scope) → named_item i s ≡ also (n.maybe_written s (out-Item i).alias) (mapped (n.item_of (out-Item i).alias (last_of (out-Item i).expr)) (named_expr (out-Item i).expr s))
unfolding named_item named_expr
item_rule i s = ap (λ l. also (n.maybe_written s (out-Item i).alias) (mapped (n.item_of (out-Item i).alias l) ((expr_of naming (out-Item i).expr).judge s))) (last_is (out-Item i).expr)

pub key_rule : (k : Key) (aliases : List (Option Name)) (s : Scope) → named_key k aliases s ≡ also (breaks rule.Ambiguity (n.is_alias aliases (alone_of (out-Key k).expr))) (mapped (λ e. roll-Key (record { expr = e; descending = (out-Key k).descending })) (named_expr (out-Key k).expr s))
unfolding named_key named_expr
key_rule k aliases s = ap (λ l. also (breaks rule.Ambiguity (n.is_alias aliases l)) (mapped (λ e. roll-Key (record { expr = e; descending = (out-Key k).descending })) ((expr_of naming (out-Key k).expr).judge s))) (alone_is (out-Key k).expr)

all_items : (s : Scope) (list : List Item) → n.items s (map (λ x. item_of naming x) list) ≡ named_items s list
unfolding named_item
all_items s list = fold_map _ _ _ list

all_keys : (aliases : List (Option Name)) (s : Scope) (keys : List Key) → each (λ k. k aliases s) (map (λ x. key_of naming x) keys) ≡ each (named_key_in aliases s) keys
unfolding named_key
all_keys aliases s keys = fold_map _ _ _ keys

pub map_map : {A B C : Type 0} (f : B → C) (g : A → B) (xs : List A) → map f (map g xs) ≡ map (λ x. f (g x)) xs
map_map f g [] = refl
map_map f g (x ∷ xs) = ap (λ ys. f (g x) ∷ ys) (map_map f g xs)

keys_are : (list : List Item) (s : Scope) (keys : List Key) →
    each (λ k. k (map (λ i. i.alias) (map (λ x. item_of naming x) list)) s) (map (λ x. key_of naming x) keys) ≡ each (named_key_in (map (λ i. (out-Item i).alias) list) s) keys
keys_are list s keys =
    ap (λ aliases. each (λ k. k aliases s) (map (λ x. key_of naming x) keys)) (map_map (λ i. i.alias) (λ x. item_of naming x) list) ∙ all_keys (map (λ i. (out-Item i).alias) list) s keys

over_is : (x : Select) (s : Scope) (from : List FromItem) →
    n.select_of from (n.items s (map (λ x. item_of naming x) (out-Select x).list)) (held (λ t. t.judge s) (option_map (λ x. expr_of naming x) (out-Select x).filter))
    (each (λ k. k (map (λ i. i.alias) (map (λ x. item_of naming x) (out-Select x).list)) s) (map (λ x. key_of naming x) (out-Select x).order))
    (held (λ t. t.judge s) (option_map (λ x. expr_of naming x) (out-Select x).limit))
    ≡ named_over (out-Select x) s from
over_is x s from = λ i. n.select_of from (all_items s (out-Select x).list i) (maybe_in s (out-Select x).filter i) (keys_are (out-Select x).list s (out-Select x).order i) (maybe_in s (out-Select x).limit i)

pub select_rule : (x : Select) (s : Scope) →
    named_select x s
    ≡ also (joined (breaks rule.Duplicates (has_double (map (λ f. (out-FromItem f).alias) (out-Select x).from))) (named_from s (out-Select x).from).note)
    (named_over (out-Select x) (inside (named_from s (out-Select x).from).it.seen s) (named_from s (out-Select x).from).it.items)
unfolding named_select
select_rule x s =
    let from = named_from s (out-Select x).from in
    ap (λ l. l s) (e.select_is naming x)
    ∙ (ap (λ fr. also (joined (breaks rule.Duplicates (has_double (map (λ f. f.alias) (map (λ x. from_of naming x) (out-Select x).from)))) fr.note)
    (n.over (record { list = map (λ x. item_of naming x) (out-Select x).list; from = map (λ x. from_of naming x) (out-Select x).from; filter = option_map (λ x. expr_of naming x) (out-Select x).filter; order = map (λ x. key_of naming x) (out-Select x).order; limit = option_map (λ x. expr_of naming x) (out-Select x).limit }) (inside fr.it.seen s) fr.it.items))
    (all_from s (out-Select x).from)
    ∙ (λ i. also (joined (breaks rule.Duplicates (has_double (map_map (λ f. f.alias) (λ x. from_of naming x) (out-Select x).from i))) from.note)
    (over_is x (inside from.it.seen s) from.it.items i)))

all_selects : (s : Scope) (xs : List Select) → n.united (map (λ x. select_of naming x) xs) s ≡ named_selects s xs
unfolding named_select
all_selects s xs = fold_map _ _ _ xs

is_some_map : {A B : Type 0} (f : A → B) (o : Option A) → is_some (option_map f o) ≡ is_some o
is_some_map f None = refl
is_some_map f (Some x) = refl

pub query_rule : (q : Query) (s : Scope) →
    named_query q s ≡ also (breaks rule.Types (is_some (out-Query q).recursive)) (mapped n.query_with (named_selects s (out-Query q).selects))
unfolding named_query
query_rule q s =
    ap (λ w. w s) (e.query_is naming q)
    ∙ (λ i. also (breaks rule.Types (is_some_map (λ r. recursive_of naming r) (out-Query q).recursive i)) (mapped n.query_with (all_selects s (out-Query q).selects i)))
