-- A node with its operations marked, by its parts.
use Rattle.std.proofs.Common.{◌≡◌, refl, ap, sym, ◌∙◌, ℕ, ℤ, Bool, true, if◌then◌else◌, List, [], ◌∷◌, ◌++◌, map, fold, Option, Some, None, option_map}
use Rattle.std.specs.Prelude.{is_some, option_and_then, slice_get}
use Rattle.away_values.specs.declared.types.Ty.{Ty}
use Rattle.away_values.specs.declared.types.Ty.TheVariants.{Bigint, Boolean, Text}
use Rattle.away_values.specs.Operators.{literal_type}
use Rattle.away_values.specs.declared.operators.ChainOp.{ChainOp}
use Rattle.away_values.specs.declared.operators.CmpOp.{CmpOp}
use Rattle.away_values.specs.declared.operators.IsTest.{IsTest}
use Rattle.away_trees.specs.declared.queries.Col.{Col}
use Rattle.away_trees.specs.declared.queries.Expr.{Expr}
use Rattle.away_trees.specs.declared.queries.Expr.TheVariants as expr
use Rattle.away_trees.specs.declared.queries.Source.{Source}
use Rattle.away_trees.specs.declared.queries.Source.TheVariants as source
use Rattle.away_trees.specs.declared.queries.FromItem.{FromItem}
use Rattle.away_trees.specs.declared.queries.Item.{Item}
use Rattle.away_trees.specs.declared.queries.Key.{Key}
use Rattle.away_trees.specs.declared.queries.Select.{Select}
use Rattle.away_trees.specs.declared.queries.Recursive.{Recursive}
use Rattle.away_trees.specs.declared.queries.Query.{Query}
use Rattle.away_trees.specs.declared.queries.Expr.TheViews.{out-FromItem, out-Select, out-Query, out-Recursive, roll-FromItem, roll-Query, roll-Recursive, roll-out-Recursive}
use Rattle.away_trees.specs.Algebra.{expr_of, item_of, key_of, from_of, select_of, recursive_of}
use Rattle.away_trees.proofs.Equations as e
use Rattle.away_names.specs.Functions.{function}
use Rattle.away_names.proofs.NamingRules.{fold_map, map_map}
use Rattle.away_typing.specs.declared.kind.Kind.{Kind}
use Rattle.away_typing.specs.declared.kind.Kind.TheVariants.{Null, Of, Wrong}
use Rattle.away_typing.specs.Kinds.{common, fits, is_right, meet, only_if, settled}
use Rattle.away_typing.specs.Typing as t
use Rattle.away_typing.specs.Typing.{Frame, Places, Shape, inside, shape_of}
use Rattle.elaboration.specs.Elaborating as m
use Rattle.elaboration.specs.Elaborating.{MadeExpr, MadeSelect, elaborating, elaborated, elaborated_source, elaborated_from, elaborated_select, elaborated_query, made, truth}
use Rattle.elaboration.specs.ElaboratingLists.{made_in, links_in, arms_in, maybe_in, item_made, items_in, key_made, keys_in, froms_in, selects_in, selected_at, recursive_in}

map_option : {A B C : Type 0} (f : B → C) (g : A → B) (o : Option A) → option_map f (option_map g o) ≡ option_map (λ x. f (g x)) o
map_option f g None = refl
map_option f g (Some x) = refl

-- ---- lists

all_is : (p : Places) (es : List Expr) → m.all_made p (map (λ x. expr_of elaborating x) es) ≡ made_in p es
unfolding elaborated
all_is p es = map_map (λ f. f p) (λ x. expr_of elaborating x) es

links_are : (p : Places) (k : Kind) (ls : List (ChainOp × Expr)) → m.marked_links k (map (λ (l : ChainOp × m.Making). (l.0, l.1 p)) (map (λ (l : ChainOp × Expr). (l.0, expr_of elaborating l.1)) ls)) ≡ links_in p k ls
unfolding elaborated
links_are p k ls = ap (m.marked_links k) (map_map (λ (l : ChainOp × m.Making). (l.0, l.1 p)) (λ (l : ChainOp × Expr). (l.0, expr_of elaborating l.1)) ls)

arms_are : (p : Places) (as_ : List (Expr × Expr)) → map (λ (arm : m.Making × m.Making). (arm.0 p, arm.1 p)) (map (λ (x : Expr × Expr). (expr_of elaborating x.0, expr_of elaborating x.1)) as_) ≡ arms_in p as_
unfolding elaborated
arms_are p as_ = map_map (λ (arm : m.Making × m.Making). (arm.0 p, arm.1 p)) (λ (x : Expr × Expr). (expr_of elaborating x.0, expr_of elaborating x.1)) as_

maybe_is : (p : Places) (o : Option Expr) → option_map (λ f. f p) (option_map (λ x. expr_of elaborating x) o) ≡ maybe_in p o
unfolding elaborated
maybe_is p o = map_option (λ f. f p) (λ x. expr_of elaborating x) o

-- ---- expressions

pub int_made : (n : ℤ) (p : Places) → elaborated p (expr.Int n) ≡ made (Of (literal_type n)) (expr.Int n)
unfolding elaborated
int_made n p = refl

pub str_made : (n : List ℕ) (p : Places) → elaborated p (expr.Str n) ≡ made (Of Text) (expr.Str n)
unfolding elaborated
str_made n p = refl

pub bool_made : (n : Bool) (p : Places) → elaborated p (expr.Bool n) ≡ made (Of Boolean) (expr.Bool n)
unfolding elaborated
bool_made n p = refl

pub null_made : (p : Places) → elaborated p expr.Null ≡ made Null expr.Null
unfolding elaborated
null_made p = refl

pub named_made : (n : List ℕ) (p : Places) → elaborated p (expr.Named n) ≡ made Wrong (expr.Named n)
unfolding elaborated
named_made n p = refl

pub qualified_made : (a n : List ℕ) (p : Places) → elaborated p (expr.Dotted a n) ≡ made Wrong (expr.Dotted a n)
unfolding elaborated
qualified_made a n p = refl

pub slot_made : (i : ℕ) (p : Places) → elaborated p (expr.Slot i) ≡ made (t.kind_at (slice_get p.slots i)) (expr.Slot i)
unfolding elaborated
slot_made i p = refl

pub column_made : (c : Col) (p : Places) → elaborated p (expr.Column c) ≡ made (t.column p.frames c) (expr.Column c)
unfolding elaborated
column_made c p = refl

pub param_made : (i : ℕ) (ty : Ty) (p : Places) → elaborated p (expr.Param i ty) ≡ made (Of ty) (expr.Param i ty)
unfolding elaborated
param_made i ty p = refl

pub neg_made : (x : Expr) (p : Places) → elaborated p (expr.Neg x) ≡ m.negated (elaborated p x)
unfolding elaborated
neg_made x p = ap (λ f. f p) (e.of_neg elaborating x)

pub negsmall_made : (x : Expr) (p : Places) → elaborated p (expr.NegSmall x) ≡ m.negated (elaborated p x)
unfolding elaborated
negsmall_made x p = ap (λ f. f p) (e.of_negsmall elaborating x)

pub not_made : (x : Expr) (p : Places) → elaborated p (expr.Not x) ≡ truth (fits Boolean (elaborated p x).kind) (expr.Not (elaborated p x).it)
unfolding elaborated
not_made x p = ap (λ f. f p) (e.of_not elaborating x)

pub is_made : (x : Expr) (test : IsTest) (v : Bool) (p : Places) → elaborated p (expr.Is x test v) ≡ truth (t.passed test (elaborated p x).kind) (expr.Is (elaborated p x).it test v)
unfolding elaborated
is_made x test v p = ap (λ f. f p) (e.of_is elaborating x test v)

pub chain_rule : (x : Expr) (ls : List (ChainOp × Expr)) (p : Places) →
    elaborated p (expr.Chain x ls)
    ≡ made (m.chain_kind (links_in p (elaborated p x).kind ls) (elaborated p x).kind) (expr.Chain (elaborated p x).it (m.link_trees (links_in p (elaborated p x).kind ls)))
unfolding elaborated
chain_rule x ls p =
    let a = elaborated p x in
    ap (λ f. f p) (e.of_chain elaborating x ls) ∙ ap (λ ls. made (m.chain_kind ls a.kind) (expr.Chain a.it (m.link_trees ls))) (links_are p a.kind ls)

pub compare_made : (op : CmpOp) (x y : Expr) (p : Places) →
    elaborated p (expr.Compare op x y) ≡ truth (is_right (meet (elaborated p x).kind (elaborated p y).kind)) (expr.Compare op (elaborated p x).it (elaborated p y).it)
unfolding elaborated
compare_made op x y p = ap (λ f. f p) (e.of_compare elaborating op x y)

pub between_made : (v : Bool) (x y z : Expr) (p : Places) →
    elaborated p (expr.Between v x y z)
    ≡ truth (is_right (meet (meet (elaborated p x).kind (elaborated p y).kind) (elaborated p z).kind)) (expr.Between v (elaborated p x).it (elaborated p y).it (elaborated p z).it)
unfolding elaborated
between_made v x y z p = ap (λ f. f p) (e.of_between elaborating v x y z)

pub oneof_made : (v : Bool) (x : Expr) (es : List Expr) (p : Places) →
    elaborated p (expr.OneOf v x es)
    ≡ truth (is_right (meet (elaborated p x).kind (common (m.kinds_of (made_in p es))))) (expr.OneOf v (elaborated p x).it (m.trees_of (made_in p es)))
unfolding elaborated
oneof_made v x es p =
    let a = elaborated p x in
    ap (λ f. f p) (e.of_oneof elaborating v x es)
    ∙ ap (λ xs. truth (is_right (meet a.kind (common (m.kinds_of xs)))) (expr.OneOf v a.it (m.trees_of xs))) (all_is p es)

pub cast_made : (x : Expr) (ty : Ty) (p : Places) → elaborated p (expr.Cast x ty) ≡ made (t.cast_kind ty (elaborated p x).kind) (expr.Cast (elaborated p x).it ty)
unfolding elaborated
cast_made x ty p = ap (λ f. f p) (e.of_cast elaborating x ty)

pub cases_made : (as_ : List (Expr × Expr)) (o : Option Expr) (p : Places) →
    elaborated p (expr.Cases as_ o)
    ≡ made (only_if (m.tested (arms_in p as_)) (settled (meet (common (m.value_kinds (arms_in p as_))) (m.other_kind (maybe_in p o)))))
    (expr.Cases (m.arm_trees (arms_in p as_)) (m.option_tree (maybe_in p o)))
unfolding elaborated
cases_made as_ o p =
    ap (λ f. f p) (e.of_cases elaborating as_ o)
    ∙ (λ i. made (only_if (m.tested (arms_are p as_ i)) (settled (meet (m.chosen (arms_are p as_ i)) (m.other_kind (maybe_is p o i)))))
    (expr.Cases (m.arm_trees (arms_are p as_ i)) (m.option_tree (maybe_is p o i))))

pub call_made : (x : List ℕ) (es : List Expr) (p : Places) →
    elaborated p (expr.Call x es) ≡ made (t.called (function x) (m.kinds_of (made_in p es))) (expr.Call x (m.trees_of (made_in p es)))
unfolding elaborated
call_made x es p =
    ap (λ f. f p) (e.of_call elaborating x es) ∙ ap (λ xs. made (t.called (function x) (m.kinds_of xs)) (expr.Call x (m.trees_of xs))) (all_is p es)

pub countrows_made : (p : Places) → elaborated p expr.CountRows ≡ made (Of Bigint) expr.CountRows
unfolding elaborated
countrows_made p = refl

pub scalar_made : (q : Query) (p : Places) → elaborated p (expr.Scalar q) ≡ made (t.scalar_kind (elaborated_query p q).shape) (expr.Scalar (elaborated_query p q).it)
unfolding elaborated elaborated_query
scalar_made q p = ap (λ f. f p) (e.of_scalar elaborating q)

pub exists_made : (q : Query) (p : Places) → elaborated p (expr.Exists q) ≡ made (t.exists_kind (elaborated_query p q).shape) (expr.Exists (elaborated_query p q).it)
unfolding elaborated elaborated_query
exists_made q p = ap (λ f. f p) (e.of_exists elaborating q)

pub ruleset elaborating_rules = (int_made, str_made, bool_made, null_made, named_made, qualified_made, slot_made, column_made, param_made, neg_made, negsmall_made, not_made, is_made, chain_rule, compare_made, between_made, oneof_made, cast_made, cases_made, call_made, countrows_made, scalar_made, exists_made)

-- ---- FROM

pub table_made : (x : List ℕ) (columns : List (List ℕ)) (p : Places) (frame : Frame) →
    elaborated_source p (source.Table x) columns frame ≡ record { shape = t.table_shape p.tables columns; it = source.Table x }
unfolding elaborated_source
table_made x columns p frame = refl

pub sub_made : (q : Query) (lateral : Bool) (columns : List (List ℕ)) (p : Places) (frame : Frame) →
    elaborated_source p (source.Sub q lateral) columns frame
    ≡ record {
      shape = t.listed columns (elaborated_query (inside (t.before lateral frame) p) q).shape;
      it = source.Sub (elaborated_query (inside (t.before lateral frame) p) q).it lateral;
    }
unfolding elaborated_source elaborated_query
sub_made q lateral columns p frame = ap (λ f. f columns p frame) (e.of_sub elaborating q lateral)

pub ruleset source_rules = (table_made, sub_made)

pub from_rule : (f : FromItem) (p : Places) (frame : Frame) →
    elaborated_from p f frame
    ≡ record {
      shape = (elaborated_source p (out-FromItem f).source (out-FromItem f).columns frame).shape;
      it =
          roll-FromItem (record {
            source = (elaborated_source p (out-FromItem f).source (out-FromItem f).columns frame).it;
            alias = (out-FromItem f).alias;
            columns = (out-FromItem f).columns;
          });
    }
unfolding elaborated_from elaborated_source
from_rule f p frame = refl

froms_are : (p : Places) (fs : List FromItem) (frame : Frame) → m.parts_made p (map (λ x. from_of elaborating x) fs) frame ≡ froms_in p fs frame
unfolding elaborated_from
froms_are p [] frame = refl
froms_are p (f ∷ fs) frame =
    let x = elaborated_from p f frame in
    ap (λ xs. x ∷ xs) (froms_are p fs (frame ++ m.columns_or_none x.shape ∷ []))

-- ---- selects

items_are : (p : Places) (xs : List Item) → map (λ f. f p) (map (λ x. item_of elaborating x) xs) ≡ items_in p xs
unfolding elaborated
items_are p xs = map_map (λ f. f p) (λ x. item_of elaborating x) xs

keys_are : (p : Places) (xs : List Key) → map (λ f. f p) (map (λ x. key_of elaborating x) xs) ≡ keys_in p xs
unfolding elaborated
keys_are p xs = map_map (λ f. f p) (λ x. key_of elaborating x) xs

over_is : (x : Select) (p : Places) (from : List FromItem) →
    m.selected_over from (map (λ f. f p) (map (λ x. item_of elaborating x) (out-Select x).list)) (option_map (λ f. f p) (option_map (λ x. expr_of elaborating x) (out-Select x).filter))
    (map (λ f. f p) (map (λ x. key_of elaborating x) (out-Select x).order)) (option_map (λ f. f p) (option_map (λ x. expr_of elaborating x) (out-Select x).limit))
    ≡ selected_at (out-Select x) p from
unfolding selected_at
over_is x p from = λ i. m.selected_over from (items_are p (out-Select x).list i) (maybe_is p (out-Select x).filter i) (keys_are p (out-Select x).order i) (maybe_is p (out-Select x).limit i)

-- by the items of its FROM
abbrev pub over_froms : Select → Places → List m.MadeFrom → MadeSelect
over_froms x p from =
    let frame = m.frame_made from [] in
    m.where_framed frame (selected_at (out-Select x) (inside (m.frame_or_none frame) p) (m.from_trees from))

pub select_rule : (x : Select) (p : Places) → elaborated_select p x ≡ over_froms x p (froms_in p (out-Select x).from [])
unfolding elaborated_select
select_rule x p =
    ap (λ f. f p) (e.select_is elaborating x)
    ∙ (λ i. let from = froms_are p (out-Select x).from [] i in
    let frame = m.frame_made from [] in
    m.where_framed frame (over_is x (inside (m.frame_or_none frame) p) (m.from_trees from) i))

-- ---- queries

selects_are : (p : Places) (xs : List Select) → map (λ f. f p) (map (λ x. select_of elaborating x) xs) ≡ selects_in p xs
unfolding elaborated_select
selects_are p xs = map_map (λ f. f p) (λ x. select_of elaborating x) xs

firsts_are : (p : Places) (xs : List Select) → map (λ f. (f p).it) (map (λ x. select_of elaborating x) xs) ≡ m.select_trees (selects_in p xs)
unfolding elaborated_select
firsts_are p [] = refl
firsts_are p (x ∷ xs) = ap (λ ys. (elaborated_select p x).it ∷ ys) (firsts_are p xs)

recursive_is : (p : Places) (r : Recursive) → recursive_of elaborating r p ≡ recursive_in p r
unfolding elaborated_select
recursive_is p r =
    let o = out-Recursive r in
    ap (λ x. recursive_of elaborating x p) (sym (roll-out-Recursive r))
    ∙ ap (λ f. f p) (e.of_recursive elaborating o.name o.columns o.first o.second)
    ∙ ap (λ xs. roll-Recursive (record { name = o.name; columns = o.columns; first = xs; second = (elaborated_select p o.second).it })) (firsts_are p o.first)

terms_are : (p : Places) (o : Option Recursive) → option_map (λ r. r p) (option_map (λ r. recursive_of elaborating r) o) ≡ option_map (recursive_in p) o
terms_are p None = refl
terms_are p (Some r) = ap (λ x. Some x) (recursive_is p r)

mapped_some : {A B : Type 0} (f : A → B) (o : Option A) → is_some (option_map f o) ≡ is_some o
mapped_some f None = refl
mapped_some f (Some x) = refl

abbrev pub with_terms : Bool → Option Recursive → List MadeSelect → m.MadeQuery
with_terms recurs r xs = record {
  shape = if recurs then None else shape_of (m.union_made xs);
  it = roll-Query (record { recursive = r; selects = m.select_trees xs });
}

pub query_rules : (q : Query) (p : Places) →
    elaborated_query p q ≡ with_terms (is_some (out-Query q).recursive) (option_map (recursive_in p) (out-Query q).recursive) (selects_in p (out-Query q).selects)
unfolding elaborated_query elaborated_select
query_rules q p =
    let o = (out-Query q).recursive in
    ap (λ f. f p) (e.query_is elaborating q)
    ∙ (λ i. with_terms (mapped_some (λ r. recursive_of elaborating r) o i) (terms_are p o i) (selects_are p (out-Query q).selects i))
