-- A worked query: SELECT 7, CAST(NULL AS text), under a schema without tables.
use Rattle.std.specs.Prelude.{pos, [], ◌∷◌, None}
use Rattle.away_values.specs.declared.types.Ty.TheVariants as ty
use Rattle.away_trees.specs.declared.queries.Expr.{Expr}
use Rattle.away_trees.specs.declared.queries.Expr.TheVariants as expr
use Rattle.away_trees.specs.declared.queries.Item.{Item}
use Rattle.away_trees.specs.declared.queries.Query.{Query}
use Rattle.away_trees.specs.declared.queries.Expr.TheViews.{roll-Item, roll-Select, roll-Query}
use Rattle.away_trees.specs.declared.schemas.Schema.{Schema}
use Rattle.away_types.specs.CheckedQueries.{resolved_query}

abbrev pub no_table : Schema
no_table = record { tables = [] }

abbrev item : Expr → Item
item e = roll-Item (record { expr = e; alias = None })

abbrev pub seven : Query
seven =
    roll-Query (record {
      recursive = None;
      selects = roll-Select (record {
        list = item (expr.Int (pos 7)) ∷ item (expr.Cast expr.Null ty.Text) ∷ [];
        from = [];
        filter = None;
        order = [];
        limit = None;
      }) ∷ [];
    })

abbrev pub checked_seven : Query
checked_seven = resolved_query no_table seven
