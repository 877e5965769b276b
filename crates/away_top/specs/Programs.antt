-- What is run over tables: a query, by its answer or all of its rows, or a function. Each has its
-- file, its arguments and its reply.
use Rattle.std.specs.Prelude.{ℕ, List, Option, codes}
use Rattle.away_values.specs.declared.values.Value.{Value}
use Rattle.away_trees.specs.declared.schemas.Schema.{Schema}
use Rattle.sql_meaning.specs.Context.{Rows}
use Rattle.sql_meaning.specs.Working.{rows as rows_at, sql}
use Rattle.sql_eval.specs.RowsAnswers.{rows_answered}
use Rattle.plsql_meaning.specs.Equivalent.{answers}
use Rattle.away_types.specs.TypedSlots.{typed_slots}
use Rattle.away_top.specs.declared.over_tables.program.Program.{Program as Checked}
use Rattle.away_top.specs.declared.over_tables.program.Program.TheVariants as checked
use Rattle.away_top.specs.declared.over_tables.program.Reply.{Reply}
use Rattle.away_top.specs.declared.over_tables.program.Reply.TheVariants as reply
use Rattle.away_top.specs.declared.over_tables.program.Runnable.{Runnable}
use Rattle.away_top.specs.declared.over_tables.program.Runnable.TheVariants as run
use Rattle.away_top.specs.Arguments.{values_for, values_of}
use Rattle.away_top.specs.Course.{Course, and_then, gives}
use Rattle.away_top.specs.Files.{
  Asked,
  Callable,
  as_asked,
  as_callable,
  as_row_query,
  asked_of,
  callable_of,
  row_query_of,
}
use Rattle.away_top.specs.Files.{function_course, query_course, row_query_course}
use Rattle.away_top.specs.Refusals.{IsFunction, IsQuery, IsRowQuery}

-- the command that asks for it
abbrev pub word_of : Runnable → List ℕ
word_of run.Query = codes "sql"
word_of run.Rows = codes "rows"
word_of run.Function = codes "fn"

-- a query or a function whose names are resolved
pub data Program : Type 0 where
  query : Asked → Program
  rows : Asked → Program
  function : Callable → Program

abbrev pub as_program : Checked → Program
as_program (checked.Query c) = query (as_asked c)
as_program (checked.Rows c) = rows (as_row_query c)
as_program (checked.Function c) = function (as_callable c)

-- ---- its file

-- the bytes read as such a program, which breaks no rule over the tables of the schema
abbrev pub IsProgram : Runnable → Schema → List ℕ → Type 0
IsProgram run.Query schema bytes = IsQuery schema bytes
IsProgram run.Rows schema bytes = IsRowQuery schema bytes
IsProgram run.Function schema bytes = IsFunction schema bytes

abbrev pub program_of : (what : Runnable) (schema : Schema) (bytes : List ℕ) → IsProgram what schema bytes → Program
program_of run.Query schema bytes is = query (asked_of schema is.written)
program_of run.Rows schema bytes is = rows (row_query_of schema is.written)
program_of run.Function schema bytes is = function (callable_of schema is.written)

-- the most bytes of its file
abbrev pub most_bytes : Runnable → ℕ
most_bytes run.Query = 67108864
most_bytes run.Rows = 67108864
most_bytes run.Function = 1048576

-- its file is read and judged over the tables of the schema
abbrev pub program_course : Runnable → Schema → List ℕ → Course Program
program_course run.Query schema name = and_then (query_course schema name) (λ q. gives (query q))
program_course run.Rows schema name = and_then (row_query_course schema name) (λ q. gives (rows q))
program_course run.Function schema name = and_then (function_course schema name) (λ f. gives (function f))

-- ---- its run

-- the values that words spell for its parameters
abbrev pub arguments_of : Program → List (List ℕ) → Option (List Value)
arguments_of (query q) = values_of q.params
arguments_of (rows q) = values_of q.params
arguments_of (function f) = values_for f.function.params

-- what it gives over these rows of the tables, with these arguments and within this bound
abbrev pub reply_of : Program → List Rows → List Value → ℕ → Reply
reply_of (query q) tables args k = reply.Answer (sql q.query tables args k)
reply_of (rows q) tables args k = reply.Rows (rows_answered (rows_at q.query tables args k))
reply_of (function f) tables args k =
    reply.Answer (answers f.function (typed_slots f.slots) tables args k)
