-- An expression with others in place of its slots: columns of the row, and literals as they are; or
-- what names stand for, and a cast round each literal.
use Rattle.std.specs.Prelude.{ℕ, List, Option, Some, None}
use Rattle.away_values.specs.declared.operators.ChainOp.{ChainOp}
use Rattle.away_values.specs.declared.types.Ty.{Ty}
use Rattle.away_trees.specs.declared.queries.Expr.{Expr}
use Rattle.away_trees.specs.declared.queries.Expr.TheVariants as expr
use Rattle.away_trees.specs.declared.queries.Source.{Source}
use Rattle.away_trees.specs.declared.queries.FromItem.{FromItem}
use Rattle.away_trees.specs.declared.queries.Item.{Item}
use Rattle.away_trees.specs.declared.queries.Key.{Key}
use Rattle.away_trees.specs.declared.queries.Query.{Query}
use Rattle.away_trees.specs.declared.queries.Recursive.{Recursive}
use Rattle.away_trees.specs.declared.queries.Select.{Select}
use Rattle.away_trees.specs.declared.queries.Expr.TheViews.{
  roll-Item,
  roll-FromItem,
  roll-Key,
  out-Item,
  out-FromItem,
  out-Key,
}
use Rattle.away_trees.specs.Algebra.{Algebra, expr_of, source_of, query_of, recursive_of, select_of}
use Rattle.sql_meaning.specs.Placed.{replacing, with_cast}
use Rattle.sql_meaning.specs.Trees.{col}
use Rattle.call_forms.specs.Scopes.{paired}
use Rattle.turn_terms.specs.References.{as_it_is, value_in}
use Rattle.turn_terms.specs.declared.leaves.Leaves.{Leaves}
use Rattle.turn_terms.specs.declared.leaves.Leaves.TheVariants as leaves
use Rattle.turn_terms.specs.declared.references.Reference.{Reference}

-- ---- what stands for slots and literals

-- what stands beside the first slot that is i
unfoldable pub beside : List ℕ → List ℕ → ℕ → Option ℕ
beside slots names i = paired (λ n. Some n) None slots names i

unfoldable pub named_leaf : List ℕ → List ℕ → List Reference → ℕ → Expr
named_leaf slots names refs i = paired (value_in refs) expr.Null slots names i

unfoldable pub leaf_at : Leaves → ℕ → ℕ → Expr
leaf_at leaves.Columns d i = col d 0 i
leaf_at (leaves.Names slots names refs) d i = named_leaf slots.now names.now refs.now i

unfoldable pub literal_at : Leaves → Ty → Expr → Expr
literal_at leaves.Columns t e = as_it_is t e
literal_at (leaves.Names slots names refs) t e = with_cast t e

abbrev pub placing : Leaves → Algebra
placing l = replacing (leaf_at l) (literal_at l)

-- ---- by the parts

unfoldable pub expr_in : Leaves → ℕ → Expr → Expr
expr_in l d e = expr_of (placing l) e d

unfoldable pub source_in : Leaves → ℕ → Source → Source
source_in l d s = source_of (placing l) s d

unfoldable pub select_in : Leaves → ℕ → Select → Select
select_in l d s = select_of (placing l) s d

unfoldable pub recursive_in : Leaves → ℕ → Recursive → Recursive
recursive_in l d r = recursive_of (placing l) r d

unfoldable pub query_in : Leaves → ℕ → Query → Query
query_in l d q = query_of (placing l) q d

abbrev pub link_in : Leaves → ℕ → ChainOp × Expr → ChainOp × Expr
link_in l d x = (x.0, expr_in l d x.1)

abbrev pub arm_in : Leaves → ℕ → Expr × Expr → Expr × Expr
arm_in l d a = (expr_in l d a.0, expr_in l d a.1)

abbrev pub item_in : Leaves → ℕ → Item → Item
item_in l d i =
    roll-Item (record { expr = expr_in l d (out-Item i).expr; alias = (out-Item i).alias })

abbrev pub from_in : Leaves → ℕ → FromItem → FromItem
from_in l d f = roll-FromItem (record {
  source = source_in l d (out-FromItem f).source;
  alias = (out-FromItem f).alias;
  columns = (out-FromItem f).columns;
})

abbrev pub key_in : Leaves → ℕ → Key → Key
key_in l d k =
    roll-Key (record { expr = expr_in l d (out-Key k).expr; descending = (out-Key k).descending })

abbrev pub maybe_in : Leaves → ℕ → Option Expr → Option Expr
maybe_in l d None = None
maybe_in l d (Some e) = Some (expr_in l d e)

abbrev pub maybe_recursive_in : Leaves → ℕ → Option Recursive → Option Recursive
maybe_recursive_in l d None = None
maybe_recursive_in l d (Some r) = Some (recursive_in l d r)
