-- An expression of the function as it stands in the query: columns for its slots, and a cast round
-- each literal, inside so many of its own selects.
use Rattle.std.specs.Prelude.{ℕ, List, Option, Some, None}
use Rattle.away_values.specs.declared.operators.ChainOp.{ChainOp}
use Rattle.away_trees.specs.declared.queries.Col.{Col}
use Rattle.away_trees.specs.declared.queries.Expr.{Expr}
use Rattle.away_trees.specs.declared.queries.Source.{Source}
use Rattle.away_trees.specs.declared.queries.FromItem.{FromItem}
use Rattle.away_trees.specs.declared.queries.Item.{Item}
use Rattle.away_trees.specs.declared.queries.Key.{Key}
use Rattle.away_trees.specs.declared.queries.Query.{Query}
use Rattle.away_trees.specs.declared.queries.Recursive.{Recursive}
use Rattle.away_trees.specs.declared.queries.Select.{Select}
use Rattle.away_trees.specs.declared.queries.Expr.TheViews.{
  roll-Item,
  roll-FromItem,
  roll-Key,
  out-Item,
  out-FromItem,
  out-Key,
}
use Rattle.away_trees.specs.Algebra.{Algebra, expr_of, source_of, query_of, recursive_of, select_of}
use Rattle.sql_meaning.specs.Placed.{replacing, column_of, with_cast}
use Rattle.cte_parts.specs.Columns.{column_beside}
use Rattle.cte_parts.specs.declared.columns.Leaves.{Leaves}

abbrev pub placing : (ℕ → Col) → Algebra
placing ref = replacing (column_of ref) with_cast

-- ---- what stands for the slots of one expression

unfoldable pub column_at : Leaves → ℕ → Col
column_at l slot = column_beside l.slots.now l.columns.now l.other slot

-- ---- by the parts

unfoldable pub expr_in : (ℕ → Col) → ℕ → Expr → Expr
expr_in ref d e = expr_of (placing ref) e d

unfoldable pub source_in : (ℕ → Col) → ℕ → Source → Source
source_in ref d s = source_of (placing ref) s d

unfoldable pub select_in : (ℕ → Col) → ℕ → Select → Select
select_in ref d s = select_of (placing ref) s d

unfoldable pub recursive_in : (ℕ → Col) → ℕ → Recursive → Recursive
recursive_in ref d r = recursive_of (placing ref) r d

unfoldable pub query_in : (ℕ → Col) → ℕ → Query → Query
query_in ref d q = query_of (placing ref) q d

abbrev pub link_in : (ℕ → Col) → ℕ → ChainOp × Expr → ChainOp × Expr
link_in ref d l = (l.0, expr_in ref d l.1)

abbrev pub arm_in : (ℕ → Col) → ℕ → Expr × Expr → Expr × Expr
arm_in ref d a = (expr_in ref d a.0, expr_in ref d a.1)

abbrev pub item_in : (ℕ → Col) → ℕ → Item → Item
item_in ref d i = roll-Item (record { expr = expr_in ref d (out-Item i).expr; alias = (out-Item i).alias })

abbrev pub from_in : (ℕ → Col) → ℕ → FromItem → FromItem
from_in ref d f = roll-FromItem (record {
  source = source_in ref d (out-FromItem f).source;
  alias = (out-FromItem f).alias;
  columns = (out-FromItem f).columns;
})

abbrev pub key_in : (ℕ → Col) → ℕ → Key → Key
key_in ref d k = roll-Key (record { expr = expr_in ref d (out-Key k).expr; descending = (out-Key k).descending })

abbrev pub maybe_in : (ℕ → Col) → ℕ → Option Expr → Option Expr
maybe_in ref d None = None
maybe_in ref d (Some e) = Some (expr_in ref d e)

abbrev pub maybe_recursive_in : (ℕ → Col) → ℕ → Option Recursive → Option Recursive
maybe_recursive_in ref d None = None
maybe_recursive_in ref d (Some r) = Some (recursive_in ref d r)
