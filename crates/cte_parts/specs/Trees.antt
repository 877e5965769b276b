-- The items of the query, with their names.
use Rattle.std.specs.Prelude.{ℕ, suc, true, false, pos, List, [], ◌∷◌, map, Some, None, decimal}
use Rattle.away_values.specs.declared.operators.IsTest.TheVariants as test
use Rattle.away_trees.specs.declared.queries.Expr.{Expr}
use Rattle.away_trees.specs.declared.queries.Expr.TheVariants as expr
use Rattle.away_trees.specs.declared.queries.Source.TheVariants as source
use Rattle.away_trees.specs.declared.queries.FromItem.{FromItem}
use Rattle.away_trees.specs.declared.queries.Select.{Select}
use Rattle.away_trees.specs.declared.queries.Query.{Query}
use Rattle.away_trees.specs.declared.queries.Expr.TheViews.{roll-FromItem, roll-Query}
use Rattle.sql_meaning.specs.Trees.{truth, select, one}
use Rattle.cte_parts.specs.Names.{table_name, only_name, alias_name, names_carrying}

-- c IS NOT TRUE
abbrev pub is_not_true : Expr → Expr
is_not_true c = expr.Is c test.True true

-- LATERAL (q) AS alias(columns)
abbrev pub lateral_as : List ℕ → List (List ℕ) → Query → FromItem
lateral_as alias names q = roll-FromItem (record { source = source.Sub q true; alias = alias; columns = names })

-- LATERAL (SELECT list WHERE c) AS alias(away_v), of one expression
abbrev pub only_as : ℕ → Select → FromItem
only_as k s = lateral_as (alias_name k) (only_name ∷ []) (one s)

-- one row where c holds
abbrev pub gate_as : ℕ → Expr → FromItem
gate_as k c = only_as k (select (truth true ∷ []) [] (Some c))

-- one row with a value
abbrev pub let_as : ℕ → Expr → FromItem
let_as k e = only_as k (select (e ∷ []) [] None)

-- the row of one select or of the other, of which so many columns are carried
abbrev pub either_carrying : ℕ → ℕ → ℕ → Select → Select → FromItem
either_carrying k carried columns a b =
    lateral_as (alias_name k) (names_carrying carried columns)
    (roll-Query (record { recursive = None; selects = a ∷ b ∷ [] }))

-- the row of one select or of the other
abbrev pub either_as : ℕ → ℕ → Select → Select → FromItem
either_as k = either_carrying k 0

-- the working table, by its place behind so many tables; so many of its columns are carried
abbrev pub working_carrying : ℕ → ℕ → ℕ → FromItem
working_carrying tables carried columns =
    roll-FromItem (record {
      source = source.Table table_name;
      alias = table_name;
      columns = decimal tables ∷ names_carrying carried columns;
    })

-- the working table, by its place behind so many tables
abbrev pub working : ℕ → ℕ → FromItem
working tables = working_carrying tables 0
