-- What a node uses, by its parts.
use Rattle.std.proofs.Common.{◌≡◌, refl, ap, sym, ◌∙◌, ℕ, suc, ℤ, Bool, true, false, ◌||◌, List, [], ◌∷◌, map, fold, Option, Some, None, option_map}
use Rattle.std.specs.Prelude.{◌==◌}
use Rattle.std.specs.List.{list_any}
use Rattle.away_values.specs.declared.types.Ty.{Ty}
use Rattle.away_trees.specs.declared.queries.Col.{Col}
use Rattle.away_values.specs.declared.operators.ChainOp.{ChainOp}
use Rattle.away_values.specs.declared.operators.CmpOp.{CmpOp}
use Rattle.away_values.specs.declared.operators.IsTest.{IsTest}
use Rattle.away_trees.specs.declared.queries.Expr.{Expr}
use Rattle.away_trees.specs.declared.queries.Expr.TheVariants as expr
use Rattle.away_trees.specs.declared.queries.Source.{Source}
use Rattle.away_trees.specs.declared.queries.Source.TheVariants as source
use Rattle.away_trees.specs.declared.queries.FromItem.{FromItem}
use Rattle.away_trees.specs.declared.queries.Item.{Item}
use Rattle.away_trees.specs.declared.queries.Key.{Key}
use Rattle.away_trees.specs.declared.queries.Select.{Select}
use Rattle.away_trees.specs.declared.queries.Query.{Query}
use Rattle.away_trees.specs.declared.queries.Recursive.{Recursive}
use Rattle.away_typing.specs.Aggregates as n
use Rattle.away_trees.specs.declared.queries.Expr.TheViews.{out-Item, out-FromItem, out-Key, out-Select, out-Query, out-Recursive, roll-out-Recursive}
use Rattle.away_trees.specs.Algebra.{expr_of, item_of, key_of, from_of, select_of, query_of, recursive_of}
use Rattle.away_trees.proofs.Equations as e
use Rattle.away_typing.specs.declared.uses.Uses.{Uses}
use Rattle.away_typing.specs.Aggregates.{using_, Term, unused, either, or_, all, all_of, maybe, with_, called, aggregated, of_slot, of_column, of_query, apart, is_some_of, limit_of, select_uses}
use Rattle.away_typing.specs.Trees.{uses_of, uses_of_source, uses_of_select, uses_of_query, names_at, source_names_at, select_names_at, query_names_at}
use Rattle.away_typing.specs.UsesLists.{any_at, any_link_at, any_arm_at, maybe_at, any_item_at, any_key_at, any_from_at, any_select_at, all_used, links_used, arms_used, maybe_used, items_used, keys_used, from_used, selects_used, uses_over, with_used, with_names_at}
use Rattle.away_names.proofs.NamingRules.{fold_map, map_map}

any_map : {A B : Type 0} (f : B → Bool) (g : A → B) (xs : List A) → list_any f (map g xs) ≡ list_any (λ x. f (g x)) xs
any_map f g [] = refl
any_map f g (x ∷ xs) = ap (λ b. f (g x) || b) (any_map f g xs)

-- of the values of a list of trees

uses_map : {A : Type 0} (g : A → Term) (xs : List A) → (all (map g xs)).uses ≡ fold (λ u x. either u (g x).uses) unused xs
uses_map g xs = ap all_of (map_map (λ t. t.uses) g xs) ∙ fold_map either (λ x. (g x).uses) unused xs

at_map : {A : Type 0} (level : ℕ) (g : A → Term) (xs : List A) → (all (map g xs)).names level ≡ list_any (λ x. (g x).names level) xs
at_map level g xs = any_map (λ t. t.names level) g xs

all_are : (es : List Expr) → all_of (map (λ t. t.uses) (map (λ x. expr_of using_ x) es)) ≡ all_used es
unfolding uses_of
all_are es = uses_map (λ x. expr_of using_ x) es

all_at : (level : ℕ) (es : List Expr) → (all (map (λ x. expr_of using_ x) es)).names level ≡ any_at level es
unfolding names_at
all_at level es = at_map level (λ x. expr_of using_ x) es

links_are : (ls : List (ChainOp × Expr)) → (all (map (λ (l : ChainOp × Term). l.1) (map (λ (l : ChainOp × Expr). (l.0, expr_of using_ l.1)) ls))).uses ≡ links_used ls
unfolding uses_of
links_are ls = ap (λ ts. (all ts).uses) (map_map (λ (l : ChainOp × Term). l.1) (λ (l : ChainOp × Expr). (l.0, expr_of using_ l.1)) ls) ∙ uses_map (λ l. expr_of using_ l.1) ls

links_at : (level : ℕ) (ls : List (ChainOp × Expr)) → (all (map (λ (l : ChainOp × Term). l.1) (map (λ (l : ChainOp × Expr). (l.0, expr_of using_ l.1)) ls))).names level ≡ any_link_at level ls
unfolding names_at
links_at level ls = ap (λ ts. (all ts).names level) (map_map (λ (l : ChainOp × Term). l.1) (λ (l : ChainOp × Expr). (l.0, expr_of using_ l.1)) ls) ∙ at_map level (λ l. expr_of using_ l.1) ls

arms_are : (as_ : List (Expr × Expr)) → (all (map (λ (arm : Term × Term). with_ arm.0 arm.1) (map (λ (x : Expr × Expr). (expr_of using_ x.0, expr_of using_ x.1)) as_))).uses ≡ arms_used as_
unfolding uses_of
arms_are as_ = ap (λ ts. (all ts).uses) (map_map (λ (arm : Term × Term). with_ arm.0 arm.1) (λ (x : Expr × Expr). (expr_of using_ x.0, expr_of using_ x.1)) as_) ∙ uses_map (λ x. with_ (expr_of using_ x.0) (expr_of using_ x.1)) as_

arms_at : (level : ℕ) (as_ : List (Expr × Expr)) → (all (map (λ (arm : Term × Term). with_ arm.0 arm.1) (map (λ (x : Expr × Expr). (expr_of using_ x.0, expr_of using_ x.1)) as_))).names level ≡ any_arm_at level as_
unfolding names_at
arms_at level as_ = ap (λ ts. (all ts).names level) (map_map (λ (arm : Term × Term). with_ arm.0 arm.1) (λ (x : Expr × Expr). (expr_of using_ x.0, expr_of using_ x.1)) as_) ∙ at_map level (λ x. with_ (expr_of using_ x.0) (expr_of using_ x.1)) as_

other_is : (o : Option Expr) → (maybe (option_map (λ x. expr_of using_ x) o)).uses ≡ maybe_used o
unfolding uses_of
other_is None = refl
other_is (Some x) = refl

other_at : (level : ℕ) (o : Option Expr) → (maybe (option_map (λ x. expr_of using_ x) o)).names level ≡ maybe_at level o
unfolding names_at
other_at level None = refl
other_at level (Some x) = refl

-- ---- expressions

pub int_at : (level : ℕ) (n : ℤ) → names_at level (expr.Int n) ≡ false
unfolding names_at
int_at level n = refl

pub int_used : (n : ℤ) → uses_of (expr.Int n) ≡ unused
unfolding uses_of
int_used n = refl

pub str_at : (level : ℕ) (n : List ℕ) → names_at level (expr.Str n) ≡ false
unfolding names_at
str_at level n = refl

pub str_used : (n : List ℕ) → uses_of (expr.Str n) ≡ unused
unfolding uses_of
str_used n = refl

pub bool_at : (level : ℕ) (n : Bool) → names_at level (expr.Bool n) ≡ false
unfolding names_at
bool_at level n = refl

pub bool_used : (n : Bool) → uses_of (expr.Bool n) ≡ unused
unfolding uses_of
bool_used n = refl

pub null_at : (level : ℕ) → names_at level expr.Null ≡ false
unfolding names_at
null_at level = refl

pub null_used : uses_of expr.Null ≡ unused
unfolding uses_of
null_used = refl

pub named_at : (level : ℕ) (n : List ℕ) → names_at level (expr.Named n) ≡ false
unfolding names_at
named_at level n = refl

pub named_used : (n : List ℕ) → uses_of (expr.Named n) ≡ unused
unfolding uses_of
named_used n = refl

pub qualified_at : (level : ℕ) (a n : List ℕ) → names_at level (expr.Dotted a n) ≡ false
unfolding names_at
qualified_at level a n = refl

pub qualified_used : (a n : List ℕ) → uses_of (expr.Dotted a n) ≡ unused
unfolding uses_of
qualified_used a n = refl

pub param_at : (level : ℕ) (i : ℕ) (t : Ty) → names_at level (expr.Param i t) ≡ false
unfolding names_at
param_at level i t = refl

pub param_used : (i : ℕ) (t : Ty) → uses_of (expr.Param i t) ≡ unused
unfolding uses_of
param_used i t = refl

pub neg_at : (level : ℕ) (x : Expr) → names_at level (expr.Neg x) ≡ names_at level x
unfolding names_at
neg_at level x = ap (λ t. t.names level) (e.of_neg using_ x)

pub neg_used : (x : Expr) → uses_of (expr.Neg x) ≡ uses_of x
unfolding uses_of
neg_used x = ap (λ t. t.uses) (e.of_neg using_ x)

pub negsmall_at : (level : ℕ) (x : Expr) → names_at level (expr.NegSmall x) ≡ names_at level x
unfolding names_at
negsmall_at level x = ap (λ t. t.names level) (e.of_negsmall using_ x)

pub negsmall_used : (x : Expr) → uses_of (expr.NegSmall x) ≡ uses_of x
unfolding uses_of
negsmall_used x = ap (λ t. t.uses) (e.of_negsmall using_ x)

pub not_at : (level : ℕ) (x : Expr) → names_at level (expr.Not x) ≡ names_at level x
unfolding names_at
not_at level x = ap (λ t. t.names level) (e.of_not using_ x)

pub not_used : (x : Expr) → uses_of (expr.Not x) ≡ uses_of x
unfolding uses_of
not_used x = ap (λ t. t.uses) (e.of_not using_ x)

pub is_at : (level : ℕ) (x : Expr) (t : IsTest) (v : Bool) → names_at level (expr.Is x t v) ≡ names_at level x
unfolding names_at
is_at level x t v = ap (λ t. t.names level) (e.of_is using_ x t v)

pub is_used : (x : Expr) (t : IsTest) (v : Bool) → uses_of (expr.Is x t v) ≡ uses_of x
unfolding uses_of
is_used x t v = ap (λ t. t.uses) (e.of_is using_ x t v)

pub cast_at : (level : ℕ) (x : Expr) (t : Ty) → names_at level (expr.Cast x t) ≡ names_at level x
unfolding names_at
cast_at level x t = ap (λ t. t.names level) (e.of_cast using_ x t)

pub cast_used : (x : Expr) (t : Ty) → uses_of (expr.Cast x t) ≡ uses_of x
unfolding uses_of
cast_used x t = ap (λ t. t.uses) (e.of_cast using_ x t)

pub compare_at : (level : ℕ) (op : CmpOp) (x y : Expr) → names_at level (expr.Compare op x y) ≡ or_ (names_at level x) (names_at level y)
unfolding names_at
compare_at level op x y = ap (λ t. t.names level) (e.of_compare using_ op x y)

pub compare_used : (op : CmpOp) (x y : Expr) → uses_of (expr.Compare op x y) ≡ either (uses_of x) (uses_of y)
unfolding uses_of
compare_used op x y = ap (λ t. t.uses) (e.of_compare using_ op x y)

pub between_at : (level : ℕ) (v : Bool) (x y z : Expr) → names_at level (expr.Between v x y z) ≡ or_ (names_at level x) (or_ (names_at level y) (names_at level z))
unfolding names_at
between_at level v x y z = ap (λ t. t.names level) (e.of_between using_ v x y z)

pub between_used : (v : Bool) (x y z : Expr) → uses_of (expr.Between v x y z) ≡ either (uses_of x) (either (uses_of y) (uses_of z))
unfolding uses_of
between_used v x y z = ap (λ t. t.uses) (e.of_between using_ v x y z)

pub chain_at : (level : ℕ) (x : Expr) (ls : List (ChainOp × Expr)) → names_at level (expr.Chain x ls) ≡ or_ (names_at level x) (any_link_at level ls)
unfolding names_at
chain_at level x ls = ap (λ t. t.names level) (e.of_chain using_ x ls) ∙ ap (or_ (names_at level x)) (links_at level ls)

pub chain_used : (x : Expr) (ls : List (ChainOp × Expr)) → uses_of (expr.Chain x ls) ≡ either (uses_of x) (links_used ls)
unfolding uses_of
chain_used x ls = ap (λ t. t.uses) (e.of_chain using_ x ls) ∙ ap (either (uses_of x)) (links_are ls)

pub oneof_at : (level : ℕ) (v : Bool) (x : Expr) (es : List Expr) → names_at level (expr.OneOf v x es) ≡ or_ (names_at level x) (any_at level es)
unfolding names_at
oneof_at level v x es = ap (λ t. t.names level) (e.of_oneof using_ v x es) ∙ ap (or_ (names_at level x)) (all_at level es)

pub oneof_used : (v : Bool) (x : Expr) (es : List Expr) → uses_of (expr.OneOf v x es) ≡ either (uses_of x) (all_used es)
unfolding uses_of
oneof_used v x es = ap (λ t. t.uses) (e.of_oneof using_ v x es) ∙ ap (either (uses_of x)) (all_are es)

pub cases_at : (level : ℕ) (as_ : List (Expr × Expr)) (o : Option Expr) → names_at level (expr.Cases as_ o) ≡ or_ (any_arm_at level as_) (maybe_at level o)
unfolding names_at
cases_at level as_ o = ap (λ t. t.names level) (e.of_cases using_ as_ o) ∙ (λ i. or_ (arms_at level as_ i) (other_at level o i))

pub cases_used : (as_ : List (Expr × Expr)) (o : Option Expr) → uses_of (expr.Cases as_ o) ≡ either (arms_used as_) (maybe_used o)
unfolding uses_of
cases_used as_ o = ap (λ t. t.uses) (e.of_cases using_ as_ o) ∙ (λ i. either (arms_are as_ i) (other_is o i))

pub call_at : (level : ℕ) (x : List ℕ) (es : List Expr) → names_at level (expr.Call x es) ≡ any_at level es
unfolding names_at
call_at level x es = ap (λ t. t.names level) (e.of_call using_ x es) ∙ all_at level es

pub call_used : (x : List ℕ) (es : List Expr) → uses_of (expr.Call x es) ≡ called x (all_used es)
unfolding uses_of
call_used x es = ap (λ t. t.uses) (e.of_call using_ x es) ∙ ap (called x) (all_are es)

pub slot_at : (level : ℕ) (i : ℕ) → names_at level (expr.Slot i) ≡ false
unfolding names_at
slot_at level i = refl

pub slot_used : (i : ℕ) → uses_of (expr.Slot i) ≡ of_slot
unfolding uses_of
slot_used i = refl

pub column_at : (level : ℕ) (c : Col) → names_at level (expr.Column c) ≡ (c.level == level)
unfolding names_at
column_at level c = refl

pub column_used : (c : Col) → uses_of (expr.Column c) ≡ of_column c.level
unfolding uses_of
column_used c = refl

pub countrows_at : (level : ℕ) → names_at level expr.CountRows ≡ false
unfolding names_at
countrows_at level = refl

pub countrows_used : uses_of expr.CountRows ≡ aggregated unused
unfolding uses_of
countrows_used = refl

pub scalar_at : (level : ℕ) (q : Query) → names_at level (expr.Scalar q) ≡ query_names_at (suc level) q
unfolding names_at query_names_at
scalar_at level q = ap (λ t. t.names level) (e.of_scalar using_ q)

pub scalar_used : (q : Query) → uses_of (expr.Scalar q) ≡ of_query (uses_of_query q) (query_names_at 1 q)
unfolding uses_of uses_of_query query_names_at
scalar_used q = ap (λ t. t.uses) (e.of_scalar using_ q)

pub exists_at : (level : ℕ) (q : Query) → names_at level (expr.Exists q) ≡ query_names_at (suc level) q
unfolding names_at query_names_at
exists_at level q = ap (λ t. t.names level) (e.of_exists using_ q)

pub exists_used : (q : Query) → uses_of (expr.Exists q) ≡ of_query (uses_of_query q) (query_names_at 1 q)
unfolding uses_of uses_of_query query_names_at
exists_used q = ap (λ t. t.uses) (e.of_exists using_ q)

pub ruleset names_rules = (int_at, str_at, bool_at, null_at, named_at, qualified_at, param_at, neg_at, negsmall_at, not_at, is_at, cast_at, compare_at, between_at, chain_at, oneof_at, cases_at, call_at, slot_at, column_at, countrows_at, scalar_at, exists_at)

pub ruleset uses_rules = (int_used, str_used, bool_used, null_used, named_used, qualified_used, param_used, neg_used, negsmall_used, not_used, is_used, cast_used, compare_used, between_used, chain_used, oneof_used, cases_used, call_used, slot_used, column_used, countrows_used, scalar_used, exists_used)

-- ---- FROM, selects and queries

pub table_at : (level : ℕ) (x : List ℕ) → source_names_at level (source.Table x) ≡ false
unfolding source_names_at
table_at level x = refl

pub table_used : (x : List ℕ) → uses_of_source (source.Table x) ≡ unused
unfolding uses_of_source
table_used x = refl

pub sub_at : (level : ℕ) (q : Query) (lateral : Bool) → source_names_at level (source.Sub q lateral) ≡ query_names_at (suc level) q
unfolding source_names_at query_names_at
sub_at level q lateral = ap (λ t. t.names level) (e.of_sub using_ q lateral)

pub sub_used : (q : Query) (lateral : Bool) → uses_of_source (source.Sub q lateral) ≡ apart (uses_of_query q)
unfolding uses_of_source uses_of_query
sub_used q lateral = ap (λ t. t.uses) (e.of_sub using_ q lateral)

pub ruleset source_rules = (table_at, table_used, sub_at, sub_used)

items_at : (level : ℕ) (xs : List Item) → (all (map (λ x. item_of using_ x) xs)).names level ≡ any_item_at level xs
unfolding names_at
items_at level xs = at_map level (λ x. item_of using_ x) xs

items_are : (xs : List Item) → (all (map (λ x. item_of using_ x) xs)).uses ≡ items_used xs
unfolding uses_of
items_are xs = uses_map (λ x. item_of using_ x) xs

keys_at : (level : ℕ) (xs : List Key) → (all (map (λ x. key_of using_ x) xs)).names level ≡ any_key_at level xs
unfolding names_at
keys_at level xs = at_map level (λ x. key_of using_ x) xs

keys_are : (xs : List Key) → (all (map (λ x. key_of using_ x) xs)).uses ≡ keys_used xs
unfolding uses_of
keys_are xs = uses_map (λ x. key_of using_ x) xs

from_at : (level : ℕ) (xs : List FromItem) → (all (map (λ x. from_of using_ x) xs)).names level ≡ any_from_at level xs
unfolding source_names_at
from_at level xs = at_map level (λ x. from_of using_ x) xs

from_are : (xs : List FromItem) → (all (map (λ x. from_of using_ x) xs)).uses ≡ from_used xs
unfolding uses_of_source
from_are xs = uses_map (λ x. from_of using_ x) xs

selects_at : (level : ℕ) (xs : List Select) → (all (map (λ x. select_of using_ x) xs)).names level ≡ any_select_at level xs
unfolding select_names_at
selects_at level xs = at_map level (λ x. select_of using_ x) xs

selects_are : (xs : List Select) → (all (map (λ x. select_of using_ x) xs)).uses ≡ selects_used xs
unfolding uses_of_select
selects_are xs = uses_map (λ x. select_of using_ x) xs

pub select_at : (level : ℕ) (x : Select) →
    select_names_at level x
    ≡ or_ (any_item_at level (out-Select x).list) (or_ (any_from_at level (out-Select x).from) (or_ (maybe_at level (out-Select x).filter) (or_ (any_key_at level (out-Select x).order) (maybe_at level (out-Select x).limit))))
unfolding select_names_at
select_at level x =
    ap (λ t. t.names level) (e.select_is using_ x)
    ∙ (λ i. or_ (items_at level (out-Select x).list i) (or_ (from_at level (out-Select x).from i) (or_ (other_at level (out-Select x).filter i) (or_ (keys_at level (out-Select x).order i) (other_at level (out-Select x).limit i)))))

some_map : {A B : Type 0} (f : A → B) (xs : List A) → is_some_of (map f xs) ≡ is_some_of xs
some_map f [] = refl
some_map f (x ∷ xs) = refl

pub select_used : (x : Select) → uses_of_select x ≡ uses_over (out-Select x)
unfolding uses_of_select
select_used x =
    ap (λ t. t.uses) (e.select_is using_ x)
    ∙ (λ i. select_uses (items_are (out-Select x).list i) (from_are (out-Select x).from i) (other_is (out-Select x).filter i) (keys_are (out-Select x).order i) (other_is (out-Select x).limit i)
    (some_map (λ x. key_of using_ x) (out-Select x).order i) (other_at 0 (out-Select x).limit i))

terms_is : (r : Recursive) → recursive_of using_ r ≡ n.terms (record { name = (out-Recursive r).name; columns = (out-Recursive r).columns; first = map (λ x. select_of using_ x) (out-Recursive r).first; second = select_of using_ (out-Recursive r).second })
terms_is r = ap (λ r. recursive_of using_ r) (sym (roll-out-Recursive r)) ∙ e.of_recursive using_ (out-Recursive r).name (out-Recursive r).columns (out-Recursive r).first (out-Recursive r).second

with_at : (level : ℕ) (r : Option Recursive) → (maybe (option_map (λ r. recursive_of using_ r) r)).names level ≡ with_names_at level r
unfolding select_names_at
with_at level None = refl
with_at level (Some r) = ap (λ t. t.names level) (terms_is r) ∙ ap (λ b. or_ b ((select_of using_ (out-Recursive r).second).names level)) (selects_at level (out-Recursive r).first)

with_is : (r : Option Recursive) → (maybe (option_map (λ r. recursive_of using_ r) r)).uses ≡ with_used r
unfolding uses_of_select
with_is None = refl
with_is (Some r) = ap (λ t. t.uses) (terms_is r) ∙ ap (λ u. apart (either u (select_of using_ (out-Recursive r).second).uses)) (selects_are (out-Recursive r).first)

pub query_at : (level : ℕ) (q : Query) → query_names_at level q ≡ or_ (with_names_at level (out-Query q).recursive) (any_select_at level (out-Query q).selects)
unfolding query_names_at
query_at level q = ap (λ t. t.names level) (e.query_is using_ q) ∙ (λ i. or_ (with_at level (out-Query q).recursive i) (selects_at level (out-Query q).selects i))

pub query_used : (q : Query) → uses_of_query q ≡ apart (either (with_used (out-Query q).recursive) (selects_used (out-Query q).selects))
unfolding uses_of_query
query_used q = ap (λ t. t.uses) (e.query_is using_ q) ∙ (λ i. apart (either (with_is (out-Query q).recursive i) (selects_are (out-Query q).selects i)))
