-- What the columns in sight are called.
use Rattle.std.specs.Prelude.{ℕ, List, map, Option, Some, None, slice_get}
use Rattle.std.specs.Option.{option_and_then}
use Rattle.away_trees.specs.declared.queries.Col.{Col}
use Rattle.away_trees.specs.declared.queries.Expr.{Expr}
use Rattle.away_trees.specs.declared.queries.Expr.TheVariants as expr
use Rattle.away_trees.specs.declared.queries.Expr.TheBlock as b
use Rattle.away_names.specs.declared.scope.Seen.{Seen}
use Rattle.away_names.specs.Lookups.{Name, Level}
use Rattle.qualified_names.specs.declared.sight.Sight.{Sight as Here}

-- the items of FROM that a place sees, the innermost select first
abbrev pub Sight : Type 0
Sight = List Level

-- what the code's is to the definitions
abbrev pub sight : Here → Sight
sight s = map (λ l. l.now) s.levels.now

-- the item that has a column
abbrev pub holder : Sight → Col → Option Seen
holder s c = option_and_then (λ level. slice_get level c.item) (slice_get s c.level)

-- the name of an item's column, where the item has the column and it has a name
abbrev pub name_at : Seen → ℕ → Option Name
name_at o i = option_and_then (λ n. n) (slice_get o.columns i)

-- a column by the alias of its item and its own name; one that nothing in sight has, or that has no
-- name, stays as it is
abbrev pub called : Name → Col → Option Name → Expr
called alias c None = expr.Column c
called alias c (Some n) = expr.Dotted alias n

abbrev pub called_in : Col → Option Seen → Expr
called_in c None = expr.Column c
called_in c (Some o) = called o.alias c (name_at o c.column)

unfoldable pub reference : Sight → Col → Expr
reference s c = called_in c (holder s c)

-- the name of a list's column: its alias, or else its own where it is called by one
abbrev pub own_name : Expr → Option Name
own_name (b.Dotted alias n) = Some n
own_name _ = None

unfoldable pub column_name : Option Name → Expr → Option Name
column_name (Some n) e = Some n
column_name None e = own_name e
