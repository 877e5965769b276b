-- A resolved tree with its operations marked, and the types of its parts, from the leaves up.
use Rattle.std.specs.Prelude.{
  ℕ,
  Bool,
  true,
  ◌&&◌,
  List,
  [],
  ◌∷◌,
  ◌++◌,
  map,
  fold,
  slice_get,
  Option,
  Some,
  None,
  option_map,
  option_and_then,
  is_some,
  if◌then◌else◌,
}
use Rattle.away_values.specs.declared.types.Ty.{Ty}
use Rattle.away_values.specs.declared.types.Ty.TheVariants.{Bigint, Boolean, Text, Integer}
use Rattle.away_values.specs.declared.operators.ChainOp.{ChainOp}
use Rattle.away_values.specs.Operators.{literal_type}
use Rattle.away_trees.specs.declared.queries.Expr.{Expr}
use Rattle.away_trees.specs.declared.queries.Expr.TheVariants as expr
use Rattle.away_trees.specs.declared.queries.Source.{Source}
use Rattle.away_trees.specs.declared.queries.Source.TheVariants as source
use Rattle.away_trees.specs.declared.queries.FromItem.{FromItem}
use Rattle.away_trees.specs.declared.queries.Item.{Item}
use Rattle.away_trees.specs.declared.queries.Key.{Key}
use Rattle.away_trees.specs.declared.queries.Select.{Select}
use Rattle.away_trees.specs.declared.queries.Recursive.{Recursive}
use Rattle.away_trees.specs.declared.queries.Query.{Query}
use Rattle.away_trees.specs.declared.queries.Expr.TheOpen.{
  Expr-F,
  Source-F,
  FromItem-F,
  Item-F,
  Key-F,
  Select-F,
  Recursive-F,
  Query-F,
}
use Rattle.away_trees.specs.declared.queries.Expr.TheOpen as ex
use Rattle.away_trees.specs.declared.queries.Expr.TheViews.{
  roll-Item,
  roll-FromItem,
  roll-Key,
  roll-Select,
  roll-Recursive,
  roll-Query,
}
use Rattle.away_trees.specs.Algebra.{
  Algebra,
  expr_of,
  source_of,
  from_of,
  select_of,
  query_of,
}
use Rattle.away_trees.specs.AlgebraEquations.{algebra}
use Rattle.away_names.specs.Functions.{function}
use Rattle.away_typing.specs.declared.kind.Kind.{Kind}
use Rattle.away_typing.specs.declared.kind.Kind.TheVariants.{Null, Of, Wrong}
use Rattle.away_typing.specs.Kinds.{
  common,
  fits,
  is_integer,
  is_number,
  is_right,
  meet,
  only_if,
  settled,
}
use Rattle.away_typing.specs.Typing as t
use Rattle.away_typing.specs.Typing.{
  Frame,
  Places,
  inside,
  Shape,
  kind_or_null,
  passed,
  scalar_kind,
  exists_kind,
  listed,
  table_shape,
  before,
  or_none,
  shape_of,
}
pub use Rattle.elaboration.specs.MadeTrees.{
  MadeExpr,
  MadeSource,
  MadeFrom,
  MadeItem,
  MadeKey,
  MadeSelect,
  MadeQuery,
  Making,
  Sourcing,
  Parting,
  Itemizing,
  Sorting,
  Selecting,
  Asking,
  Recursing,
}
use Rattle.elaboration.specs.Marks.{marked_op, minus, next_kind}

-- ---- expressions

abbrev pub made : Kind → Expr → MadeExpr
made k e = record { kind = k; it = e }

abbrev pub kinds_of : List MadeExpr → List Kind
kinds_of = map (λ (m : MadeExpr). m.kind)

abbrev pub trees_of : List MadeExpr → List Expr
trees_of = map (λ (m : MadeExpr). m.it)

abbrev pub all_made : Places → List Making → List MadeExpr
all_made p = map (λ m. m p)

-- the links, marked by what stands to their left
abbrev pub marked_links : Kind → List (ChainOp × MadeExpr) → List (ChainOp × MadeExpr)
marked_links k [] = []
marked_links k (l ∷ ls) =
    (marked_op l.0 k l.1.kind, l.1) ∷ marked_links (next_kind l.0 k l.1.kind) ls

abbrev pub chain_kind : List (ChainOp × MadeExpr) → Kind → Kind
chain_kind ls k = fold (λ k (l : ChainOp × MadeExpr). t.pair l.0 k l.1.kind) k ls

abbrev pub link_trees : List (ChainOp × MadeExpr) → List (ChainOp × Expr)
link_trees = map (λ (l : ChainOp × MadeExpr). (l.0, l.1.it))

abbrev pub chain_made : MadeExpr → List (ChainOp × MadeExpr) → MadeExpr
chain_made first links =
    let ls = marked_links first.kind links in
    made (chain_kind ls first.kind) (expr.Chain first.it (link_trees ls))

abbrev pub negated : MadeExpr → MadeExpr
negated m = made
    (if is_integer m.kind then Of Integer else only_if (is_number m.kind) (Of Bigint))
    (minus m.kind m.it)

abbrev pub tested : List (MadeExpr × MadeExpr) → Bool
tested = fold (λ all (arm : MadeExpr × MadeExpr). all && fits Boolean arm.0.kind) true

abbrev pub value_kinds : List (MadeExpr × MadeExpr) → List Kind
value_kinds = map (λ (arm : MadeExpr × MadeExpr). arm.1.kind)

abbrev pub chosen : List (MadeExpr × MadeExpr) → Kind
chosen arms = common (value_kinds arms)

abbrev pub other_kind : Option MadeExpr → Kind
other_kind o = kind_or_null (option_map (λ (m : MadeExpr). m.kind) o)

abbrev pub arm_trees : List (MadeExpr × MadeExpr) → List (Expr × Expr)
arm_trees = map (λ (arm : MadeExpr × MadeExpr). (arm.0.it, arm.1.it))

abbrev pub option_kind : Option MadeExpr → Option Kind
option_kind = option_map (λ (m : MadeExpr). m.kind)

abbrev pub option_tree : Option MadeExpr → Option Expr
option_tree = option_map (λ (m : MadeExpr). m.it)

-- a boolean, where the operands fit
abbrev pub truth : Bool → Expr → MadeExpr
truth fitting e = made (only_if fitting (Of Boolean)) e

abbrev pub Layer : Type 0
Layer = Expr-F Making Sourcing Parting Itemizing Sorting Asking Recursing Selecting

abbrev pub making : Layer → Making
making (ex.Int n) p = made (Of (literal_type n)) (expr.Int n)
making (ex.Str t) p = made (Of Text) (expr.Str t)
making (ex.Bool b) p = made (Of Boolean) (expr.Bool b)
making ex.Null p = made Null expr.Null
making (ex.Named name) p = made Wrong (expr.Named name)
making (ex.Dotted alias name) p = made Wrong (expr.Dotted alias name)
making (ex.Slot i) p = made (t.kind_at (slice_get p.slots i)) (expr.Slot i)
making (ex.Column c) p = made (t.column p.frames c) (expr.Column c)
making (ex.Param i ty) p = made (Of ty) (expr.Param i ty)
making (ex.Neg e) p = negated (e p)
making (ex.NegSmall e) p = negated (e p)
making (ex.Not e) p = truth (fits Boolean (e p).kind) (expr.Not (e p).it)
making (ex.Is e test negative) p = truth (passed test (e p).kind) (expr.Is (e p).it test negative)
making (ex.Chain e links) p = chain_made (e p) (map (λ l. (l.0, l.1 p)) links)
making (ex.Compare op a b) p =
    truth (is_right (meet (a p).kind (b p).kind)) (expr.Compare op (a p).it (b p).it)
making (ex.Between negative e low high) p =
    truth (is_right (meet (meet (e p).kind (low p).kind) (high p).kind))
    (expr.Between negative (e p).it (low p).it (high p).it)
making (ex.OneOf negative e choices) p =
    let xs = all_made p choices in
    truth (is_right (meet (e p).kind (common (kinds_of xs))))
    (expr.OneOf negative (e p).it (trees_of xs))
making (ex.Cast e ty) p = made (t.cast_kind ty (e p).kind) (expr.Cast (e p).it ty)
making (ex.Cases arms other) p =
    let xs = map (λ (arm : Making × Making). (arm.0 p, arm.1 p)) arms in
    let o = option_map (λ (m : Making). m p) other in
    made (only_if (tested xs) (settled (meet (chosen xs) (other_kind o))))
    (expr.Cases (arm_trees xs) (option_tree o))
making (ex.Call name es) p =
    let xs = all_made p es in
    made (t.called (function name) (kinds_of xs)) (expr.Call name (trees_of xs))
making ex.CountRows p = made (Of Bigint) expr.CountRows
making (ex.Scalar q) p = made (scalar_kind (q p).shape) (expr.Scalar (q p).it)
making (ex.Exists q) p = made (exists_kind (q p).shape) (expr.Exists (q p).it)

-- ---- FROM

abbrev pub sourcing : Source-F Making Sourcing Parting Itemizing Sorting Asking Recursing Selecting
    → Sourcing
sourcing (ex.Table name) columns p frame =
    record { shape = table_shape p.tables columns; it = source.Table name }
sourcing (ex.Sub q lateral) columns p frame =
    let x = q (inside (before lateral frame) p) in
    record { shape = listed columns x.shape; it = source.Sub x.it lateral }

abbrev pub parting : FromItem-F Making Sourcing Parting Itemizing Sorting Asking Recursing Selecting
    → Parting
parting f p frame =
    let x = f.source f.columns p frame in
    record {
      shape = x.shape;
      it = roll-FromItem (record { source = x.it; alias = f.alias; columns = f.columns });
    }

-- what has no columns stands as an item of none
abbrev pub columns_or_none : Shape → List Ty
columns_or_none None = []
columns_or_none (Some ts) = ts

-- each item sees the ones before it
abbrev pub parts_made : Places → List Parting → Frame → List MadeFrom
parts_made p [] frame = []
parts_made p (part ∷ more) frame =
    let x = part p frame in
    x ∷ parts_made p more (frame ++ columns_or_none x.shape ∷ [])

abbrev pub frame_made : List MadeFrom → Frame → Option Frame
frame_made [] frame = Some frame
frame_made (x ∷ xs) frame = option_and_then (λ ts. frame_made xs (frame ++ ts ∷ [])) x.shape

abbrev pub from_trees : List MadeFrom → List FromItem
from_trees = map (λ (m : MadeFrom). m.it)

abbrev pub frame_or_none : Option Frame → Frame
frame_or_none None = []
frame_or_none (Some frame) = frame

-- ---- a select

abbrev pub item_kinds : List MadeItem → List Kind
item_kinds = map (λ (m : MadeItem). m.kind)

abbrev pub item_trees : List MadeItem → List Item
item_trees = map (λ (m : MadeItem). m.it)

abbrev pub key_kinds : List MadeKey → List Kind
key_kinds = map (λ (m : MadeKey). m.kind)

abbrev pub key_trees : List MadeKey → List Key
key_trees = map (λ (m : MadeKey). m.it)

-- by its parts, over items that all have columns
abbrev pub selected_over : List FromItem → List MadeItem → Option MadeExpr → List MadeKey
    → Option MadeExpr → MadeSelect
selected_over from list filter order limit = record {
  kinds = t.select_kinds (item_kinds list) (option_kind filter) (key_kinds order)
      (option_kind limit);
  it =
      roll-Select (record {
        list = item_trees list;
        from = from;
        filter = option_tree filter;
        order = key_trees order;
        limit = option_tree limit;
      });
}

-- it has columns where each item of FROM has some
abbrev pub where_framed : Option Frame → MadeSelect → MadeSelect
where_framed frame x = record { kinds = option_and_then (λ _. x.kinds) frame; it = x.it }

abbrev pub selected : List MadeFrom → Option Frame → List MadeItem → Option MadeExpr → List MadeKey
    → Option MadeExpr → MadeSelect
selected from frame list filter order limit =
    where_framed frame (selected_over (from_trees from) list filter order limit)

abbrev pub Parts : Type 0
Parts = Select-F Making Sourcing Parting Itemizing Sorting Asking Recursing Selecting

-- by its places inside FROM
abbrev pub selected_in : Places → List MadeFrom → Option Frame → Parts → MadeSelect
selected_in q from frame s = selected from frame (map (λ x. x q) s.list)
    (option_map (λ x. x q) s.filter) (map (λ x. x q) s.order) (option_map (λ x. x q) s.limit)

abbrev pub selecting : Parts → Selecting
selecting s p =
    let from = parts_made p s.from [] in
    let frame = frame_made from [] in
    selected_in (inside (frame_or_none frame) p) from frame s

abbrev pub union_made : List MadeSelect → Option (List Kind)
union_made ss = or_none (fold (λ ks (s : MadeSelect). t.further ks s.kinds) None ss)

abbrev pub select_trees : List MadeSelect → List Select
select_trees = map (λ (s : MadeSelect). s.it)

abbrev pub asking : Query-F Making Sourcing Parting Itemizing Sorting Asking Recursing Selecting
    → Asking
asking q p =
    let ss = map (λ s. s p) q.selects in
    record {
      shape = if is_some q.recursive then None else shape_of (union_made ss);
      it =
          roll-Query (record {
            recursive = option_map (λ r. r p) q.recursive;
            selects = select_trees ss;
          });
    }

abbrev pub itemizing : Item-F Making Sourcing Parting Itemizing Sorting Asking Recursing Selecting
    → Itemizing
itemizing i p =
    let x = i.expr p in
    record { kind = x.kind; it = roll-Item (record { expr = x.it; alias = i.alias }) }

abbrev pub sorting : Key-F Making Sourcing Parting Itemizing Sorting Asking Recursing Selecting
    → Sorting
sorting k p =
    let x = k.expr p in
    record { kind = x.kind; it = roll-Key (record { expr = x.it; descending = k.descending }) }

abbrev pub recursing : Recursive-F Making Sourcing Parting Itemizing Sorting Asking Recursing Selecting
    → Recursing
recursing r p =
    roll-Recursive (record {
      name = r.name;
      columns = r.columns;
      first = map (λ (s : Selecting). (s p).it) r.first;
      second = (r.second p).it;
    })

abbrev pub elaborating : Algebra
elaborating = algebra (record {
  no_expr = λ p. made Wrong expr.Null;
  no_query = λ p. record {
    shape = None;
    it = roll-Query (record { recursive = None; selects = [] });
  };
  expr = making;
  source = sourcing;
  from = parting;
  item = itemizing;
  key = sorting;
  query = asking;
  recursive = recursing;
  select = selecting;
})

-- an expression with its operations marked, and its type
unfoldable pub elaborated : Places → Expr → MadeExpr
elaborated p e = expr_of elaborating e p

unfoldable pub elaborated_source : Places → Source → List (List ℕ) → Frame → MadeSource
elaborated_source p x columns frame = source_of elaborating x columns p frame

unfoldable pub elaborated_from : Places → FromItem → Frame → MadeFrom
elaborated_from p f frame = from_of elaborating f p frame

unfoldable pub elaborated_select : Places → Select → MadeSelect
elaborated_select p s = select_of elaborating s p

unfoldable pub elaborated_query : Places → Query → MadeQuery
elaborated_query p q = query_of elaborating q p
