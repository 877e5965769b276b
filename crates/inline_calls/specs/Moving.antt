-- Trees in which others stand for slots, or whose columns from outside stand further out, by their
-- parts.
use Rattle.std.specs.Prelude.{ℕ}
use Rattle.away_values.specs.declared.operators.ChainOp.{ChainOp}
use Rattle.away_trees.specs.declared.queries.Col.{Col}
use Rattle.away_trees.specs.declared.queries.Expr.{Expr}
use Rattle.away_trees.specs.declared.queries.Source.{Source}
use Rattle.away_trees.specs.declared.queries.FromItem.{FromItem}
use Rattle.away_trees.specs.declared.queries.Item.{Item}
use Rattle.away_trees.specs.declared.queries.Key.{Key}
use Rattle.away_trees.specs.declared.queries.Query.{Query}
use Rattle.away_trees.specs.declared.queries.Recursive.{Recursive}
use Rattle.away_trees.specs.declared.queries.Select.{Select}
use Rattle.away_trees.specs.Algebra.{
  expr_of,
  from_of,
  item_of,
  key_of,
  query_of,
  recursive_of,
  select_of,
  source_of,
}
use Rattle.inline_law.specs.Moved.{moving}

-- `leaf d i` stands for slot i at depth d, and `place d c` for the column c
module _ (leaf : ℕ → ℕ → Expr) (place : ℕ → Col → Expr) where
  unfoldable pub expr_in : ℕ → Expr → Expr
  expr_in d e = expr_of (moving leaf place) e d

  unfoldable pub source_in : ℕ → Source → Source
  source_in d x = source_of (moving leaf place) x d

  unfoldable pub from_in : ℕ → FromItem → FromItem
  from_in d x = from_of (moving leaf place) x d

  unfoldable pub item_in : ℕ → Item → Item
  item_in d x = item_of (moving leaf place) x d

  unfoldable pub key_in : ℕ → Key → Key
  key_in d x = key_of (moving leaf place) x d

  unfoldable pub select_in : ℕ → Select → Select
  select_in d x = select_of (moving leaf place) x d

  unfoldable pub recursive_in : ℕ → Recursive → Recursive
  recursive_in d x = recursive_of (moving leaf place) x d

  unfoldable pub query_in : ℕ → Query → Query
  query_in d x = query_of (moving leaf place) x d

  abbrev pub link_in : ℕ → ChainOp × Expr → ChainOp × Expr
  link_in d l = (l.0, expr_in d l.1)

  abbrev pub arm_in : ℕ → Expr × Expr → Expr × Expr
  arm_in d a = (expr_in d a.0, expr_in d a.1)
