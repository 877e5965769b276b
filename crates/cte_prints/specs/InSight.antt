-- The names that a place of the query has in sight can be written.
use Rattle.std.specs.Prelude.{List, Option, Some, None}
use Rattle.away_grammar.specs.Terminals.{name}
use Rattle.away_names.specs.declared.scope.Seen.{Seen}
use Rattle.away_names.specs.Lookups.{Name, Level}
use Rattle.qualified_names.proofs.Gives.{Every}
use Rattle.sql_printer.specs.Writable.{Writable}

-- a column without a name is written nowhere
abbrev pub ColumnIsWritable : Option Name → Type 0
ColumnIsWritable None = Unit {0}
ColumnIsWritable (Some n) = Writable (name n)

pub record ItemIsWritable (o : Seen) : Type 0 where
  pub alias : Writable (name o.alias)
  pub columns : Every ColumnIsWritable o.columns

abbrev pub LevelIsWritable : Level → Type 0
LevelIsWritable = Every ItemIsWritable

abbrev pub SightIsWritable : List Level → Type 0
SightIsWritable = Every LevelIsWritable
