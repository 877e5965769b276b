-- The type of a node, by its parts.
use Rattle.std.proofs.Common.{◌≡◌, refl, ap, sym, ◌∙◌, ℕ, ℤ, Bool, true, false, ◌&&◌, if◌then◌else◌, List, [], ◌∷◌, ◌++◌, map, fold, Option, Some, None, option_map}
use Rattle.std.specs.Prelude.{not, is_some, option_and_then, slice_get, ◌≤◌, ◌*◌, ◌+◌}
use Rattle.std.proofs.Common.{arith}
use Rattle.std.specs.Char.{digit_value}
use Rattle.std.specs.Str.Parse.{digits_value_after}
use Rattle.away_values.specs.declared.types.Ty.{Ty}
use Rattle.away_values.specs.declared.types.Ty.TheVariants.{Bigint, Boolean, Text, Integer}
use Rattle.away_values.specs.Operators.{literal_type}
use Rattle.away_trees.specs.declared.queries.Col.{Col}
use Rattle.away_values.specs.declared.operators.ChainOp.{ChainOp}
use Rattle.away_values.specs.declared.operators.CmpOp.{CmpOp}
use Rattle.away_values.specs.declared.operators.IsTest.{IsTest}
use Rattle.away_trees.specs.declared.queries.Expr.{Expr}
use Rattle.away_trees.specs.declared.queries.Expr.TheVariants as expr
use Rattle.away_trees.specs.declared.queries.Source.TheVariants as source
use Rattle.away_trees.specs.declared.queries.FromItem.{FromItem}
use Rattle.away_trees.specs.declared.queries.Item.{Item}
use Rattle.away_trees.specs.declared.queries.Key.{Key}
use Rattle.away_trees.specs.declared.queries.Select.{Select}
use Rattle.away_trees.specs.declared.queries.Query.{Query}
use Rattle.away_trees.specs.declared.queries.Expr.TheViews.{out-Item, out-FromItem, out-Key, out-Select, out-Query}
use Rattle.away_trees.specs.Algebra.{expr_of, item_of, key_of, from_of, select_of, recursive_of, query_of}
use Rattle.away_trees.proofs.Equations as e
use Rattle.away_typing.specs.declared.kind.Kind.{Kind}
use Rattle.away_typing.specs.declared.kind.Kind.TheVariants.{Null, Of, Wrong}
use Rattle.away_typing.specs.Kinds.{only_if, fits, meet, is_number, is_integer, is_right, settled, common}
use Rattle.away_names.specs.Functions.{function}
use Rattle.away_typing.specs.Typing as t
use Rattle.away_typing.specs.Typing.{Places, Frame, Shape, typing, inside}
use Rattle.away_typing.specs.Trees.{kind_of, shape_of_source, shape_of_part, kinds_of_select, shape_of_query}
use Rattle.away_typing.specs.TypingLists.{chain_kind, kinds_in, tested_in, values_in, maybe_kind, item_kinds, key_kinds, framed_in, united_in, union_in, kinds_over}
use Rattle.away_names.proofs.NamingRules.{fold_map, map_map}

map_option : {A B C : Type 0} (f : B → C) (g : A → B) (o : Option A) → option_map f (option_map g o) ≡ option_map (λ x. f (g x)) o
map_option f g None = refl
map_option f g (Some x) = refl

-- ---- lists

all_kinds : (p : Places) (es : List Expr) → t.kinds p (map (λ x. expr_of typing x) es) ≡ kinds_in p es
unfolding kind_of
all_kinds p es = map_map (λ k. k p) (λ x. expr_of typing x) es

all_links : (p : Places) (ls : List (ChainOp × Expr)) (k : Kind) → t.chained p (map (λ l. (l.0, expr_of typing l.1)) ls) k ≡ chain_kind p ls k
unfolding kind_of
all_links p ls k = fold_map _ _ _ ls

all_tests : (p : Places) (as_ : List (Expr × Expr)) → t.tested p (map (λ x. (expr_of typing x.0, expr_of typing x.1)) as_) ≡ tested_in p as_
unfolding kind_of
all_tests p as_ = fold_map _ _ _ as_

all_values : (p : Places) (as_ : List (Expr × Expr)) → t.chosen p (map (λ x. (expr_of typing x.0, expr_of typing x.1)) as_) ≡ common (values_in p as_)
unfolding kind_of
all_values p as_ = ap common (map_map (λ arm. arm.1 p) (λ x. (expr_of typing x.0, expr_of typing x.1)) as_)

other_kind : (p : Places) (o : Option Expr) → t.other_kind p (option_map (λ x. expr_of typing x) o) ≡ t.kind_or_null (maybe_kind p o)
unfolding kind_of
other_kind p None = refl
other_kind p (Some x) = refl

-- ---- expressions

pub int_kind : (n : ℤ) (p : Places) → kind_of (expr.Int n) p ≡ Of (literal_type n)
unfolding kind_of
int_kind n p = refl

pub str_kind : (n : List ℕ) (p : Places) → kind_of (expr.Str n) p ≡ Of Text
unfolding kind_of
str_kind n p = refl

pub bool_kind : (n : Bool) (p : Places) → kind_of (expr.Bool n) p ≡ Of Boolean
unfolding kind_of
bool_kind n p = refl

pub null_kind : (p : Places) → kind_of expr.Null p ≡ Null
unfolding kind_of
null_kind p = refl

pub named_kind : (n : List ℕ) (p : Places) → kind_of (expr.Named n) p ≡ Wrong
unfolding kind_of
named_kind n p = refl

pub qualified_kind : (a n : List ℕ) (p : Places) → kind_of (expr.Dotted a n) p ≡ Wrong
unfolding kind_of
qualified_kind a n p = refl

pub slot_rule : (i : ℕ) (p : Places) → kind_of (expr.Slot i) p ≡ t.kind_at (slice_get p.slots i)
unfolding kind_of
slot_rule i p = refl

pub column_kind : (c : Col) (p : Places) → kind_of (expr.Column c) p ≡ t.column p.frames c
unfolding kind_of
column_kind c p = refl

pub param_kind : (i : ℕ) (ty : Ty) (p : Places) → kind_of (expr.Param i ty) p ≡ Of ty
unfolding kind_of
param_kind i ty p = refl

pub neg_kind : (x : Expr) (p : Places) → kind_of (expr.Neg x) p ≡ only_if (is_number (kind_of x p) && not (is_integer (kind_of x p))) (Of Bigint)
unfolding kind_of
neg_kind x p = ap (λ k. k p) (e.of_neg typing x)

pub negsmall_kind : (x : Expr) (p : Places) → kind_of (expr.NegSmall x) p ≡ only_if (is_integer (kind_of x p)) (Of Integer)
unfolding kind_of
negsmall_kind x p = ap (λ k. k p) (e.of_negsmall typing x)

pub not_kind : (x : Expr) (p : Places) → kind_of (expr.Not x) p ≡ only_if (fits Boolean (kind_of x p)) (Of Boolean)
unfolding kind_of
not_kind x p = ap (λ k. k p) (e.of_not typing x)

pub is_kind : (x : Expr) (test : IsTest) (v : Bool) (p : Places) → kind_of (expr.Is x test v) p ≡ only_if (t.passed test (kind_of x p)) (Of Boolean)
unfolding kind_of
is_kind x test v p = ap (λ k. k p) (e.of_is typing x test v)

pub chain_rule : (x : Expr) (ls : List (ChainOp × Expr)) (p : Places) → kind_of (expr.Chain x ls) p ≡ chain_kind p ls (kind_of x p)
unfolding kind_of
chain_rule x ls p = ap (λ k. k p) (e.of_chain typing x ls) ∙ all_links p ls (kind_of x p)

pub compare_kind : (op : CmpOp) (x y : Expr) (p : Places) → kind_of (expr.Compare op x y) p ≡ only_if (is_right (meet (kind_of x p) (kind_of y p))) (Of Boolean)
unfolding kind_of
compare_kind op x y p = ap (λ k. k p) (e.of_compare typing op x y)

pub between_kind : (v : Bool) (x y z : Expr) (p : Places) → kind_of (expr.Between v x y z) p ≡ only_if (is_right (meet (meet (kind_of x p) (kind_of y p)) (kind_of z p))) (Of Boolean)
unfolding kind_of
between_kind v x y z p = ap (λ k. k p) (e.of_between typing v x y z)

pub oneof_kind : (v : Bool) (x : Expr) (es : List Expr) (p : Places) → kind_of (expr.OneOf v x es) p ≡ only_if (is_right (meet (kind_of x p) (common (kinds_in p es)))) (Of Boolean)
unfolding kind_of
oneof_kind v x es p = ap (λ k. k p) (e.of_oneof typing v x es) ∙ ap (λ ks. only_if (is_right (meet (kind_of x p) (common ks))) (Of Boolean)) (all_kinds p es)

pub cast_rule : (x : Expr) (ty : Ty) (p : Places) → kind_of (expr.Cast x ty) p ≡ t.cast_kind ty (kind_of x p)
unfolding kind_of
cast_rule x ty p = ap (λ k. k p) (e.of_cast typing x ty)

pub cases_kind : (as_ : List (Expr × Expr)) (o : Option Expr) (p : Places) →
    kind_of (expr.Cases as_ o) p ≡ only_if (tested_in p as_) (settled (meet (common (values_in p as_)) (t.kind_or_null (maybe_kind p o))))
unfolding kind_of
cases_kind as_ o p = ap (λ k. k p) (e.of_cases typing as_ o) ∙ (λ i. only_if (all_tests p as_ i) (settled (meet (all_values p as_ i) (other_kind p o i))))

pub call_rule : (x : List ℕ) (es : List Expr) (p : Places) → kind_of (expr.Call x es) p ≡ t.called (function x) (kinds_in p es)
unfolding kind_of
call_rule x es p = ap (λ k. k p) (e.of_call typing x es) ∙ ap (t.called (function x)) (all_kinds p es)

pub countrows_kind : (p : Places) → kind_of expr.CountRows p ≡ Of Bigint
unfolding kind_of
countrows_kind p = refl

pub scalar_rule : (q : Query) (p : Places) → kind_of (expr.Scalar q) p ≡ t.scalar_kind (shape_of_query q p)
unfolding kind_of shape_of_query
scalar_rule q p = ap (λ k. k p) (e.of_scalar typing q)

pub exists_rule : (q : Query) (p : Places) → kind_of (expr.Exists q) p ≡ t.exists_kind (shape_of_query q p)
unfolding kind_of shape_of_query
exists_rule q p = ap (λ k. k p) (e.of_exists typing q)

pub ruleset kind_rules = (int_kind, str_kind, bool_kind, null_kind, named_kind, qualified_kind, slot_rule, column_kind, param_kind, neg_kind, negsmall_kind, not_kind, is_kind, chain_rule, compare_kind, between_kind, oneof_kind, cast_rule, cases_kind, call_rule, countrows_kind, scalar_rule, exists_rule)

-- ---- FROM

pub table_rule : (x : List ℕ) (columns : List (List ℕ)) (p : Places) (frame : Frame) → shape_of_source (source.Table x) columns p frame ≡ t.table_shape p.tables columns
unfolding shape_of_source
table_rule x columns p frame = refl

pub sub_rule : (q : Query) (lateral : Bool) (columns : List (List ℕ)) (p : Places) (frame : Frame) →
    shape_of_source (source.Sub q lateral) columns p frame ≡ t.listed columns (shape_of_query q (inside (t.before lateral frame) p))
unfolding shape_of_source shape_of_query
sub_rule q lateral columns p frame = ap (λ o. o columns p frame) (e.of_sub typing q lateral)

pub ruleset source_rules = (table_rule, sub_rule)

pub part_rule : (f : FromItem) (p : Places) (frame : Frame) → shape_of_part f p frame ≡ shape_of_source (out-FromItem f).source (out-FromItem f).columns p frame
unfolding shape_of_part shape_of_source
part_rule f p frame = refl

all_from : (p : Places) (fs : List FromItem) (frame : Frame) → t.framed p (map (λ x. from_of typing x) fs) frame ≡ framed_in p fs frame
unfolding shape_of_part
all_from p [] frame = refl
all_from p (f ∷ fs) frame = ap (λ k. option_and_then k (shape_of_part f p frame)) (λ i ts. all_from p fs (frame ++ ts ∷ []) i)

-- ---- selects

over_is : (x : Select) (p : Places) →
    t.select_kinds (t.kinds p (map (λ x. item_of typing x) (out-Select x).list)) (option_map (λ k. k p) (option_map (λ x. expr_of typing x) (out-Select x).filter))
    (t.kinds p (map (λ x. key_of typing x) (out-Select x).order)) (option_map (λ k. k p) (option_map (λ x. expr_of typing x) (out-Select x).limit))
    ≡ kinds_over (out-Select x) p
unfolding kind_of kinds_over
over_is x p = λ i. t.select_kinds (map_map (λ k. k p) (λ x. item_of typing x) (out-Select x).list i) (map_option (λ k. k p) (λ x. expr_of typing x) (out-Select x).filter i)
    (map_map (λ k. k p) (λ x. key_of typing x) (out-Select x).order i) (map_option (λ k. k p) (λ x. expr_of typing x) (out-Select x).limit i)

pub select_rule : (x : Select) (p : Places) →
    kinds_of_select x p ≡ option_and_then (λ frame. kinds_over (out-Select x) (inside frame p)) (framed_in p (out-Select x).from [])
unfolding kinds_of_select kinds_over
select_rule x p = ap (λ l. l p) (e.select_is typing x) ∙ (λ i. option_and_then (λ frame. over_is x (inside frame p) i) (all_from p (out-Select x).from [] i))

union_is : (p : Places) (xs : List Select) → t.union (map (λ x. select_of typing x) xs) p ≡ union_in p xs
unfolding kinds_of_select
union_is p xs = ap t.or_none (fold_map _ _ _ xs)

mapped_some : {A B : Type 0} (f : A → B) (o : Option A) → is_some (option_map f o) ≡ is_some o
mapped_some f None = refl
mapped_some f (Some x) = refl

pub query_rule : (q : Query) (p : Places) →
    shape_of_query q p ≡ (if is_some (out-Query q).recursive then None else t.shape_of (union_in p (out-Query q).selects))
unfolding shape_of_query
query_rule q p = ap (λ w. w p) (e.query_is typing q)
    ∙ (λ i. if mapped_some (λ r. recursive_of typing r) (out-Query q).recursive i then None else t.shape_of (union_is p (out-Query q).selects i))

-- ---- places of tables

pub digits_grow : (v : ℕ) (cs : List ℕ) → v ≤ digits_value_after 10 v cs
digits_grow v [] = grind arith
digits_grow v (c ∷ cs) = let more = digits_grow (v * 10 + digit_value c) cs in grind (arith, more)
