-- A select with slots in the places of its calls, and their arguments, with what their names stand
-- for and their operations marked. A slot is of the function's result type. The arguments are
-- resolved as further items of the list.
use Rattle.std.specs.Prelude.{List, [], ◌∷◌, ◌++◌, flat_map, drop, length, map, take, None}
use Rattle.away_trees.specs.declared.queries.Expr.{Expr}
use Rattle.away_trees.specs.declared.queries.Expr.TheViews.{
  out-Item,
  out-Query,
  out-Select,
  roll-Query,
}
use Rattle.away_trees.specs.declared.queries.Item.{Item}
use Rattle.away_trees.specs.declared.queries.Query.{Query}
use Rattle.away_trees.specs.declared.queries.Select.{Select}
use Rattle.away_trees.specs.declared.schemas.Schema.{Schema}
use Rattle.away_trees.specs.declared.statements.Function.{Function}
use Rattle.away_names.specs.Files.{file}
use Rattle.away_typing.specs.Typing.{Places}
use Rattle.away_typing.specs.Wholes.{column_types}
use Rattle.elaboration.specs.Elaborating.{select_trees}
use Rattle.elaboration.specs.ElaboratingLists.{selects_in}
use Rattle.sql_meaning.specs.Trees.{item}
use Rattle.inline_law.specs.Filled.{CallingSelect}
use Rattle.inline_calls.specs.Forms.{with_list}
use Rattle.inline_calls.specs.Parting.{Calls}

-- the list, and behind it the arguments of all calls
abbrev pub all_items : List Item → Calls → List Item
all_items list calls = list ++ flat_map (map item) calls

abbrev pub holed_query : CallingSelect → Query
holed_query c = roll-Query (record {
  recursive = None;
  selects = with_list c.select (all_items (out-Select c.select).list c.calls) ∷ [];
})

abbrev pub slot_places : Schema → Function → Calls → Places
slot_places s f calls = record {
  slots = map (λ (es : List Expr). f.result) calls;
  frames = [];
  tables = column_types s;
}

-- the selects of a query, as they are resolved
abbrev pub resolved_selects : Schema → Function → CallingSelect → List Select
resolved_selects s f c =
    select_trees
    (selects_in (slot_places s f c.calls) (out-Query (file s (holed_query c)).query).selects)

-- as many for each call as it has
abbrev pub split : Calls → List Expr → Calls
split [] es = []
split (c ∷ cs) es = take (length c) es ∷ split cs (drop (length c) es)

abbrev pub expr_of_item : Item → Expr
expr_of_item i = (out-Item i).expr

-- the list again, and the arguments
abbrev pub apart : CallingSelect → Select → CallingSelect
apart c x =
    record {
      select = with_list x (take (length (out-Select c.select).list) (out-Select x).list);
      calls = split c.calls
          (map expr_of_item (drop (length (out-Select c.select).list) (out-Select x).list));
    }

abbrev pub apart_first : CallingSelect → List Select → CallingSelect
apart_first c [] = c
apart_first c (x ∷ xs) = apart c x

abbrev pub resolved : Schema → Function → CallingSelect → CallingSelect
resolved s f c = apart_first c (resolved_selects s f c)
