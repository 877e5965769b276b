-- A whole query with its operations marked. The recursive table has the types of the first term's
-- columns, and these are found first.
use Rattle.std.specs.Prelude.{
  Bool,
  ◌&&◌,
  List,
  [],
  is_some,
  Option,
  Some,
  None,
  option_map,
}
use Rattle.std.specs.List.{list_all}
use Rattle.away_values.specs.declared.types.Ty.{Ty}
use Rattle.away_trees.specs.declared.schemas.Schema.{Schema}
use Rattle.away_trees.specs.declared.queries.Expr.{Expr}
use Rattle.away_trees.specs.declared.queries.Source.{Source}
use Rattle.away_trees.specs.declared.queries.FromItem.{FromItem}
use Rattle.away_trees.specs.declared.queries.Item.{Item}
use Rattle.away_trees.specs.declared.queries.Key.{Key}
use Rattle.away_trees.specs.declared.queries.Expr.TheOpen.{Recursive-F}
use Rattle.away_trees.specs.declared.queries.Select.{Select}
use Rattle.away_trees.specs.declared.queries.Recursive.{Recursive}
use Rattle.away_trees.specs.declared.queries.Query.{Query}
use Rattle.away_trees.specs.declared.queries.Expr.TheViews.{
  out-Query,
  out-Recursive,
  roll-Query,
  roll-Recursive,
}
use Rattle.away_trees.specs.Algebra.{select_of}
use Rattle.away_names.specs.declared.note.Times.{Times}
use Rattle.away_typing.specs.Typing.{Places, typing, shape_of}
use Rattle.away_typing.specs.Wholes.{
  column_types,
  with_table,
  over_tables,
  padded,
  recursive_types,
}
use Rattle.elaboration.specs.declared.made.Selected.{Selected}
use Rattle.elaboration.specs.Elaborating.{
  MadeSelect,
  union_made,
  select_trees,
  elaborated_select,
}
use Rattle.elaboration.specs.ElaboratingLists.{selects_in}

-- the parts of a recursive part
abbrev pub Fields : Type 0
Fields = Recursive-F Expr Source FromItem Item Key Query Recursive Select

abbrev pub with_fields : Query → Option Fields
with_fields q = option_map (λ r. out-Recursive r) (out-Query q).recursive

-- where the first term stands: the recursive table, if that names it, has bigints
abbrev pub first_places : Schema → Fields → Places
first_places s r = over_tables (with_table s (padded r.columns []))

abbrev pub joined : List MadeSelect → Selected (List Select)
joined ms = record { kinds = union_made ms; it = select_trees ms }

abbrev pub first_made : Schema → Fields → Selected (List Select)
first_made s r = joined (selects_in (first_places s r) r.first)

-- the tables for what stands behind the first term
abbrev pub tables_behind : Schema → Times → Fields → Selected (List Select) → List (List Ty)
tables_behind s first r x = with_table s (recursive_types first r.columns (shape_of x.kinds))

abbrev pub marked_alone : Schema → List Select → Query
marked_alone s ss = roll-Query (record {
  recursive = None;
  selects = select_trees (selects_in (over_tables (column_types s)) ss);
})

abbrev pub marked_over : List (List Ty) → Fields → List Select → List Select → Query
marked_over tables r first ss = roll-Query (record {
  recursive = Some
      (roll-Recursive (record {
        name = r.name;
        columns = r.columns;
        first = first;
        second = (elaborated_select (over_tables tables) r.second).it;
      }));
  selects = select_trees (selects_in (over_tables tables) ss);
})

abbrev pub marked_by : Schema → Times → Option Fields → List Select → Query
marked_by s first None ss = marked_alone s ss
marked_by s first (Some r) ss =
    let x = first_made s r in
    marked_over (tables_behind s first r x) r x.it ss

-- by how often its first term names the recursive table
unfoldable pub marked_whole : Schema → Times → Query → Query
marked_whole s first q = marked_by s first (with_fields q) (out-Query q).selects

-- ---- a whole query whose parts have types

abbrev pub typed_at : Places → Select → Bool
typed_at p s = is_some (select_of typing s p)

abbrev pub all_typed : Places → List Select → Bool
all_typed p = list_all (typed_at p)

abbrev pub typed_by : Schema → Times → Option Fields → List Select → Bool
typed_by s first None ss = all_typed (over_tables (column_types s)) ss
typed_by s first (Some r) ss =
    let p = over_tables (tables_behind s first r (first_made s r)) in
    all_typed (first_places s r) r.first && (typed_at p r.second && all_typed p ss)

abbrev pub typed_whole : Schema → Times → Query → Bool
typed_whole s first q = typed_by s first (with_fields q) (out-Query q).selects
