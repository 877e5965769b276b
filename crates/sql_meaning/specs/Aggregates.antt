-- Where aggregates stand, as words that proofs look into by their equations alone.
use Rattle.std.specs.Prelude.{Bool, false, ◌||◌, List, Option, Some, None}
use Rattle.std.specs.List.{list_any}
use Rattle.away_values.specs.declared.operators.ChainOp.{ChainOp}
use Rattle.away_trees.specs.declared.queries.Expr.{Expr}
use Rattle.away_trees.specs.declared.queries.Item.{Item}
use Rattle.away_trees.specs.declared.queries.Expr.TheViews.{out-Item}
use Rattle.sql_meaning.specs.Meaning.{has_aggregate}

unfoldable pub aggregated : Expr → Bool
aggregated e = has_aggregate e

unfoldable pub any_expr : List Expr → Bool
any_expr = list_any (λ e. has_aggregate e)

unfoldable pub any_link : List (ChainOp × Expr) → Bool
any_link = list_any (λ l. has_aggregate l.1)

unfoldable pub any_arm : List (Expr × Expr) → Bool
any_arm = list_any (λ a. has_aggregate a.0 || has_aggregate a.1)

unfoldable pub any_item : List Item → Bool
any_item = list_any (λ i. has_aggregate (out-Item i).expr)

unfoldable pub other_aggregated : Option Expr → Bool
other_aggregated None = false
other_aggregated (Some e) = has_aggregate e
