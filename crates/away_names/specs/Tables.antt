-- What the names of tables stand for.
use Rattle.std.specs.Prelude.{
  ℕ,
  ◌+◌,
  false,
  if◌then◌else◌,
  List,
  [],
  ◌∷◌,
  Option,
  Some,
  None,
  bytes_eq,
  decimal,
}
use Rattle.away_trees.specs.declared.schemas.Schema.{Schema}
use Rattle.away_trees.specs.declared.schemas.TableSchema.{TableSchema}
use Rattle.away_names.specs.declared.scope.Listed.{Listed}
use Rattle.away_names.specs.Lookups.{Name, Scope}
use Rattle.away_names.specs.Schemas.{column_names}

-- a table that may be named, by its place in the schema: the digits of the place, then the names of
-- its columns
abbrev pub listed : ℕ → TableSchema → Listed
listed place t = record { written = decimal place ∷ column_names t; recursive = false }

-- what a name stands for among the tables from a place on, where it stood for something before them
abbrev pub found_from : Name → ℕ → Option Listed → List TableSchema → Option Listed
found_from n place before [] = before
found_from n place before (t ∷ ts) = found_from n (place + 1) (if bytes_eq t.name n then Some (listed place t) else before) ts

-- what a name stands for in a schema
unfoldable pub table_of : Schema → Name → Option Listed
table_of s n = found_from n 0 None s.tables

-- a place where nothing but the tables of a schema is in sight
abbrev pub outermost : Schema → Scope
outermost s = record { table = table_of s; levels = []; variables = []; in_function = false }
