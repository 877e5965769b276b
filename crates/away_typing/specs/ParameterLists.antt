-- The parameters of trees, by name, and of lists of trees.
use Rattle.std.specs.Prelude.{List, fold, Option, Some, None}
use Rattle.away_values.specs.declared.operators.ChainOp.{ChainOp}
use Rattle.away_trees.specs.declared.queries.Expr.{Expr}
use Rattle.away_trees.specs.declared.queries.FromItem.{FromItem}
use Rattle.away_trees.specs.declared.queries.Item.{Item}
use Rattle.away_trees.specs.declared.queries.Key.{Key}
use Rattle.away_trees.specs.declared.queries.Select.{Select}
use Rattle.away_trees.specs.declared.queries.Source.{Source}
use Rattle.away_trees.specs.declared.queries.Query.{Query}
use Rattle.away_trees.specs.declared.queries.Recursive.{Recursive}
use Rattle.away_trees.specs.declared.queries.Expr.TheViews.{
  out-Item,
  out-Key,
  out-FromItem,
  out-Recursive,
}
use Rattle.away_trees.specs.Algebra.{expr_of, source_of, select_of, query_of}
use Rattle.away_typing.specs.declared.params.Params.{Params}
use Rattle.away_typing.specs.Parameters.{finding, no_params}

unfoldable pub with_expr : Params → Expr → Params
with_expr p e = expr_of finding e p

unfoldable pub with_source : Params → Source → Params
with_source p x = source_of finding x p

unfoldable pub with_select : Params → Select → Params
with_select p x = select_of finding x p

unfoldable pub with_query : Params → Query → Params
with_query p q = query_of finding q p

abbrev pub params_of : Query → Params
params_of q = with_query no_params q

abbrev pub with_link : Params → ChainOp × Expr → Params
with_link p l = with_expr p l.1

abbrev pub with_arm : Params → Expr × Expr → Params
with_arm p arm = with_expr (with_expr p arm.0) arm.1

abbrev pub with_item : Params → Item → Params
with_item p i = with_expr p (out-Item i).expr

abbrev pub with_key : Params → Key → Params
with_key p k = with_expr p (out-Key k).expr

abbrev pub with_part : Params → FromItem → Params
with_part p f = with_source p (out-FromItem f).source

abbrev pub with_maybe : Params → Option Expr → Params
with_maybe p None = p
with_maybe p (Some e) = with_expr p e

abbrev pub with_terms : Params → Option Recursive → Params
with_terms p None = p
with_terms p (Some r) = with_select (fold with_select p (out-Recursive r).first) (out-Recursive r).second
