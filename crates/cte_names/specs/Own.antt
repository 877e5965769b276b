-- A place in a query where an expression of a function may stand.
use Rattle.std.specs.Prelude.{◌≡◌, true, false, List, Some}
use Rattle.away_trees.specs.declared.queries.Col.{Col}
use Rattle.away_trees.specs.declared.queries.Expr.TheVariants as expr
use Rattle.away_trees.specs.declared.schemas.Schema.{Schema}
use Rattle.away_names.specs.Lookups.{Name, Level, Scope, column_qualified, is_kept}
use Rattle.away_names.specs.Tables.{table_of}
use Rattle.qualified_names.specs.Sight.{reference}

-- The tables of the schema are seen there by their names. A function can't name what other names
-- stand for.
pub record SeesTables (schema : Schema) (s : Scope) : Type 0 where
  pub tables : (n : Name) → is_kept n ≡ false → s.table n ≡ table_of schema n

-- A column of the query's own: a kept name behind a kept alias, by which it is found.
pub record IsOwn (levels : List Level) (c : Col) : Type 0 where
  pub alias : Name
  pub name : Name
  pub kept : is_kept alias ≡ true
  pub named : is_kept name ≡ true
  pub is_reference : reference levels c ≡ expr.Dotted alias name
  pub is_found : column_qualified alias name levels ≡ Some (record { column = c; many = false })
