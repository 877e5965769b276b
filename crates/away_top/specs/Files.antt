-- The files of a run: each is read and judged.
use Rattle.std.specs.Prelude.{ℕ, List}
use Rattle.away_values.specs.declared.types.Ty.{Ty}
use Rattle.away_trees.specs.declared.queries.Query.{Query}
use Rattle.away_trees.specs.declared.schemas.Schema.{Schema}
use Rattle.away_trees.specs.declared.statements.Function.{Function}
use Rattle.away_types.specs.declared.checked_function.CheckedFunction.{CheckedFunction}
use Rattle.away_types.specs.declared.checked_query.CheckedQuery.{CheckedQuery}
use Rattle.away_types.specs.declared.checked_rows.CheckedRows.{CheckedRows}
use Rattle.away_types.specs.declared.slots.Slot.{Slot}
use Rattle.away_types.specs.CheckedQueries.{judged_query, resolved_query}
use Rattle.away_types.specs.CheckedRows.{rows_judged}
use Rattle.away_types.specs.FunctionChecks.{resolved_function, slots_of}
use Rattle.away_top.specs.declared.status.Status.{Status}
use Rattle.away_top.specs.Course.{Course, and_then, ends, gives, judges, reads, RefusedBy}
use Rattle.away_top.specs.Refusals.{
  IsFunction,
  IsQuery,
  IsRowQuery,
  IsSchema,
  RefusesFunction,
  RefusesQuery,
  RefusesRowQuery,
  RefusesSchema,
}

-- a schema's file is read and judged
abbrev pub schema_course : List ℕ → Course Schema
schema_course name =
    reads name 67108864
    (λ bytes. judges (RefusedBy name (RefusesSchema bytes)) (IsSchema bytes) (λ s. gives s.schema))

-- a function whose names are resolved, and its slots
pub record Callable : Type 0 where
  pub function : Function
  pub slots : List Slot

abbrev pub as_callable : CheckedFunction → Callable
as_callable c = record { function = c.function; slots = c.slots }

abbrev pub callable_of : Schema → Function → Callable
callable_of schema written = record { function = resolved_function schema written; slots = slots_of schema written }

-- a function's file is read and judged over the tables of the schema, and its names are resolved
abbrev pub function_course : Schema → List ℕ → Course Callable
function_course schema name =
    reads name 1048576
    (λ bytes. judges (RefusedBy name (RefusesFunction schema bytes)) (IsFunction schema bytes)
    (λ f. gives (callable_of schema f.written)))

-- A schema's file and a function's are read and judged, and the run ends with one of these.
abbrev pub over_function : List ℕ → List ℕ → (Schema → Callable → Status → List ℕ → Type 0) → Course ⊥
over_function schema func E =
    and_then (schema_course schema) (λ s. and_then (function_course s func) (λ f. ends (E s f)))

-- a query whose names are resolved, and its parameters
pub record Asked : Type 0 where
  pub query : Query
  pub params : List (ℕ × Ty)

abbrev pub as_asked : CheckedQuery → Asked
as_asked c = record { query = c.query; params = c.params }

abbrev pub asked_of : Schema → Query → Asked
asked_of schema written = record { query = resolved_query schema written; params = (judged_query schema written).params }

-- a query's file is read and judged over the tables of the schema, and its names are resolved
abbrev pub query_course : Schema → List ℕ → Course Asked
query_course schema name =
    reads name 67108864
    (λ bytes. judges (RefusedBy name (RefusesQuery schema bytes)) (IsQuery schema bytes) (λ q. gives (asked_of schema q.written)))

-- the same, for all of its rows
abbrev pub as_row_query : CheckedRows → Asked
as_row_query c = record { query = c.query; params = c.params }

abbrev pub row_query_of : Schema → Query → Asked
row_query_of schema written = record { query = resolved_query schema written; params = (rows_judged schema written).params }

abbrev pub row_query_course : Schema → List ℕ → Course Asked
row_query_course schema name =
    reads name 67108864
    (λ bytes. judges (RefusedBy name (RefusesRowQuery schema bytes)) (IsRowQuery schema bytes) (λ q. gives (row_query_of schema q.written)))
