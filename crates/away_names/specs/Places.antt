-- What the code's scopes are to the definitions.
use Rattle.std.specs.Prelude.{map, Option}
use Rattle.std.specs.Option.{option_copied}
use Rattle.indexmap.specs.IndexMap.{get_by_text}
use Rattle.away_names.specs.declared.scope.Listed.{Listed}
use Rattle.away_names.specs.declared.scope.Tables.{Tables}
use Rattle.away_names.specs.declared.scope.Scope.{Scope as Here}
use Rattle.away_names.specs.Lookups.{Name, Scope, table_before}

unfoldable pub tables : Tables → Name → Option Listed
tables t = table_before (option_copied t.working) (λ n. get_by_text t.schema.now n)

abbrev pub scope : Here → Scope
scope s = record { table = tables s.tables; levels = map (λ l. l.now) s.levels.now; variables = s.variables.now; in_function = s.in_function }
