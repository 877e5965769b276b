-- A select as a subquery in the FROM of another one, which counts its rows or gives a place of the
-- first.
use Rattle.std.specs.Prelude.{
  ℕ,
  suc,
  ℤ,
  false,
  pos,
  List,
  [],
  ◌∷◌,
  ◌++◌,
  map,
  length,
  Option,
  Some,
  None,
  codes,
  decimal,
}
use Rattle.std.specs.List.{filter_map}
use Rattle.away_values.specs.declared.types.Ty.{Ty}
use Rattle.away_values.specs.declared.operators.CmpOp.{CmpOp}
use Rattle.away_values.specs.declared.operators.CmpOp.TheVariants as cmp
use Rattle.away_trees.specs.declared.queries.Expr.{Expr}
use Rattle.away_trees.specs.declared.queries.Expr.TheVariants as expr
use Rattle.away_trees.specs.declared.queries.Expr.TheBlock as b
use Rattle.away_trees.specs.declared.queries.Source.{Source}
use Rattle.away_trees.specs.declared.queries.Source.TheVariants as source
use Rattle.away_trees.specs.declared.queries.FromItem.{FromItem}
use Rattle.away_trees.specs.declared.queries.Item.{Item}
use Rattle.away_trees.specs.declared.queries.Select.{Select}
use Rattle.away_trees.specs.declared.queries.Expr.TheViews.{
  roll-FromItem,
  roll-Item,
  roll-Select,
  out-Item,
  out-Select,
}
use Rattle.away_trees.specs.Algebra.{select_of}
use Rattle.sql_meaning.specs.Reads.{reading, first_occurrences, slot_of}
use Rattle.sql_meaning.specs.Template.{below}
use Rattle.sql_meaning.specs.Trees.{col, item, one}

-- ---- the select as a subquery in FROM

-- the columns are away_v1, away_v2 and so on
abbrev pub value_name : ℕ → List ℕ
value_name place = codes "away_v" ++ decimal (suc place)

abbrev pub value_names : ℕ → List (List ℕ)
value_names many = map value_name (below many)

abbrev pub subquery : Select → Source
subquery s = source.Sub (one s) false

-- (Q) AS away_q(away_v1, ..), as many names as the list has items
abbrev pub as_source : Select → FromItem
as_source s =
    roll-FromItem (record {
      source = subquery s;
      alias = codes "away_q";
      columns = value_names (length (out-Select s).list);
    })

abbrev pub only_item : Expr → List Item
only_item e = item e ∷ []

abbrev pub only_source : Select → List FromItem
only_source s = as_source s ∷ []

-- SELECT e FROM (Q) AS away_q(..) LIMIT limit
abbrev pub over_source : Expr → Option Expr → Select → Select
over_source e limit s =
    roll-Select (record {
      list = only_item e;
      from = only_source s;
      filter = None;
      order = [];
      limit = limit;
    })

abbrev pub scalar_over : Expr → Option Expr → Select → Expr
scalar_over e limit s = expr.Scalar (one (over_source e limit s))

-- ---- tests and picks

-- (SELECT count(*) FROM (Q) AS away_q(..)) beside a number
abbrev pub count_compared : CmpOp → Select → ℤ → Expr
count_compared op s than = expr.Compare op (scalar_over expr.CountRows None s) (expr.Int than)

-- whether it has no row, and whether it has two or more
abbrev pub no_row : Select → Expr
no_row s = count_compared cmp.Eq s (pos 0)

abbrev pub more_rows : Select → Expr
more_rows s = count_compared cmp.Gt s (pos 1)

-- (SELECT away_q.away_vJ FROM (Q) AS away_q(..) LIMIT 1), J counted from 1 and the place from 0
abbrev pub pick : Select → ℕ → Expr
pick s place = scalar_over (col 0 0 place) (Some (expr.Int (pos 1))) s

-- the pick under a cast, where there is one
abbrev pub pick_as : Option Ty → Select → ℕ → Expr
pick_as None s place = pick s place
pick_as (Some t) s place = expr.Cast (pick s place) t

-- the slots that the select reads, each once, in the order of their first occurrence
abbrev pub select_slots : Select → List ℕ
select_slots s = first_occurrences (filter_map slot_of (select_of reading s 0))

-- ---- an item that is the literal NULL has the type of its target, and no item has an alias

abbrev pub null_as : Ty → Expr → Expr
null_as t b.Null = expr.Cast expr.Null t
null_as t e = e

abbrev pub typed : Option Ty → Expr → Expr
typed None e = e
typed (Some t) e = null_as t e

abbrev pub item_as : Option Ty → Item → Item
item_as t i = roll-Item (record { expr = typed t (out-Item i).expr; alias = None })

-- the items of a list by the types of their targets
abbrev pub items_as : List Ty → List Item → List Item
items_as types [] = []
items_as [] (i ∷ is) = item_as None i ∷ items_as [] is
items_as (t ∷ types) (i ∷ is) = item_as (Some t) i ∷ items_as types is

abbrev pub with_list : Select → List Item → Select
with_list s list = roll-Select (record (out-Select s) { list = list })

abbrev pub picked : List Ty → Select → Select
picked types s = with_list s (items_as types (out-Select s).list)
