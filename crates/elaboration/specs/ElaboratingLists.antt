-- Lists of trees with their operations marked, for the contracts of loops.
use Rattle.std.specs.Prelude.{List, [], ◌∷◌, ◌++◌, map, Option, option_map}
use Rattle.away_values.specs.declared.operators.ChainOp.{ChainOp}
use Rattle.away_trees.specs.declared.queries.Expr.{Expr}
use Rattle.away_trees.specs.declared.queries.Source.{Source}
use Rattle.away_trees.specs.declared.queries.FromItem.{FromItem}
use Rattle.away_trees.specs.declared.queries.Item.{Item}
use Rattle.away_trees.specs.declared.queries.Key.{Key}
use Rattle.away_trees.specs.declared.queries.Select.{Select}
use Rattle.away_trees.specs.declared.queries.Recursive.{Recursive}
use Rattle.away_trees.specs.declared.queries.Query.{Query}
use Rattle.away_trees.specs.declared.queries.Expr.TheOpen.{Select-F}
use Rattle.away_trees.specs.declared.queries.Expr.TheViews.{
  out-Item,
  roll-Item,
  out-Key,
  roll-Key,
  out-Recursive,
  roll-Recursive,
}
use Rattle.away_typing.specs.declared.kind.Kind.{Kind}
use Rattle.away_typing.specs.Typing.{Frame, Places}
use Rattle.elaboration.specs.Elaborating.{
  MadeExpr,
  MadeFrom,
  MadeItem,
  MadeKey,
  MadeSelect,
  columns_or_none,
  elaborated,
  elaborated_from,
  elaborated_select,
  marked_links,
  select_trees,
  selected_over,
}

abbrev pub made_in : Places → List Expr → List MadeExpr
made_in p = map (λ e. elaborated p e)

-- marked by what stands to their left
abbrev pub links_in : Places → Kind → List (ChainOp × Expr) → List (ChainOp × MadeExpr)
links_in p k ls = marked_links k (map (λ l. (l.0, elaborated p l.1)) ls)

abbrev pub arms_in : Places → List (Expr × Expr) → List (MadeExpr × MadeExpr)
arms_in p = map (λ arm. (elaborated p arm.0, elaborated p arm.1))

abbrev pub maybe_in : Places → Option Expr → Option MadeExpr
maybe_in p = option_map (λ e. elaborated p e)

abbrev pub item_made : Places → Item → MadeItem
item_made p i =
    let x = elaborated p (out-Item i).expr in
    record { kind = x.kind; it = roll-Item (record { expr = x.it; alias = (out-Item i).alias }) }

abbrev pub items_in : Places → List Item → List MadeItem
items_in p = map (item_made p)

abbrev pub key_made : Places → Key → MadeKey
key_made p k =
    let x = elaborated p (out-Key k).expr in
    record {
      kind = x.kind;
      it = roll-Key (record { expr = x.it; descending = (out-Key k).descending });
    }

abbrev pub keys_in : Places → List Key → List MadeKey
keys_in p = map (key_made p)

-- each sees the ones before it
abbrev pub froms_in : Places → List FromItem → Frame → List MadeFrom
froms_in p [] frame = []
froms_in p (f ∷ fs) frame =
    let x = elaborated_from p f frame in
    x ∷ froms_in p fs (frame ++ columns_or_none x.shape ∷ [])

abbrev pub selects_in : Places → List Select → List MadeSelect
selects_in p = map (λ s. elaborated_select p s)

-- the parts of a select
abbrev pub Fields : Type 0
Fields = Select-F Expr Source FromItem Item Key Query Recursive Select

-- by its places inside FROM, over the items of it
unfoldable pub selected_at : Fields → Places → List FromItem → MadeSelect
selected_at s p from = selected_over from (items_in p s.list) (maybe_in p s.filter)
    (keys_in p s.order) (maybe_in p s.limit)

abbrev pub recursive_in : Places → Recursive → Recursive
recursive_in p r =
    roll-Recursive (record {
      name = (out-Recursive r).name;
      columns = (out-Recursive r).columns;
      first = select_trees (selects_in p (out-Recursive r).first);
      second = (elaborated_select p (out-Recursive r).second).it;
    })
