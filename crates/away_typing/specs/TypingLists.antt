-- The types of lists of trees, for the contracts of loops.
use Rattle.std.specs.Prelude.{
  ℕ,
  Bool,
  true,
  ◌&&◌,
  List,
  [],
  ◌∷◌,
  ◌++◌,
  map,
  fold,
  Option,
  Some,
  None,
  option_map,
  option_and_then,
}
use Rattle.away_values.specs.declared.types.Ty.{Ty}
use Rattle.away_values.specs.declared.types.Ty.TheVariants.{Boolean}
use Rattle.away_values.specs.declared.operators.ChainOp.{ChainOp}
use Rattle.away_trees.specs.declared.queries.Expr.{Expr}
use Rattle.away_trees.specs.declared.queries.FromItem.{FromItem}
use Rattle.away_trees.specs.declared.queries.Item.{Item}
use Rattle.away_trees.specs.declared.queries.Key.{Key}
use Rattle.away_trees.specs.declared.queries.Select.{Select}
use Rattle.away_trees.specs.declared.queries.Source.{Source}
use Rattle.away_trees.specs.declared.queries.Query.{Query}
use Rattle.away_trees.specs.declared.queries.Recursive.{Recursive}
use Rattle.away_trees.specs.declared.queries.Expr.TheOpen.{Select-F}
use Rattle.away_trees.specs.declared.queries.Expr.TheViews.{out-Item, out-Key}
use Rattle.away_typing.specs.declared.kind.Kind.{Kind}
use Rattle.away_typing.specs.declared.types.Places.{Places as Here}
use Rattle.away_typing.specs.Kinds.{meet, common, fits}
use Rattle.away_typing.specs.Typing.{Places, Frame, Shape, pair, further, or_none, select_kinds}
use Rattle.away_typing.specs.Trees.{kind_of, kinds_of_select, shape_of_part}

abbrev pub places : Here → Places
places p = record { slots = p.slots.now; frames = map (λ l. l.now) p.frames.now; tables = p.tables.now }

abbrev pub chain_kind : Places → List (ChainOp × Expr) → Kind → Kind
chain_kind p links first = fold (λ k l. pair l.0 k (kind_of l.1 p)) first links

abbrev pub kinds_in : Places → List Expr → List Kind
kinds_in p = map (λ e. kind_of e p)

abbrev pub tested_in : Places → List (Expr × Expr) → Bool
tested_in p = fold (λ all arm. all && fits Boolean (kind_of arm.0 p)) true

abbrev pub values_in : Places → List (Expr × Expr) → List Kind
values_in p = map (λ arm. kind_of arm.1 p)

abbrev pub maybe_kind : Places → Option Expr → Option Kind
maybe_kind p = option_map (λ e. kind_of e p)

abbrev pub item_kinds : Places → List Item → List Kind
item_kinds p = map (λ i. kind_of (out-Item i).expr p)

abbrev pub key_kinds : Places → List Key → List Kind
key_kinds p = map (λ k. kind_of (out-Key k).expr p)

abbrev pub framed_in : Places → List FromItem → Frame → Option Frame
framed_in p [] frame = Some frame
framed_in p (f ∷ fs) frame = option_and_then (λ ts. framed_in p fs (frame ++ ts ∷ [])) (shape_of_part f p frame)

abbrev pub united_in : Places → List Select → Option (Option (List Kind))
united_in p = fold (λ ks s. further ks (kinds_of_select s p)) None

abbrev pub union_in : Places → List Select → Option (List Kind)
union_in p ss = or_none (united_in p ss)

-- over a frame that the places have
unfoldable pub kinds_over : Select-F Expr Source FromItem Item Key Query Recursive Select → Places → Option (List Kind)
kinds_over x p = select_kinds (item_kinds p x.list) (maybe_kind p x.filter) (key_kinds p x.order) (maybe_kind p x.limit)
