-- What a call answers over files and a sink in memory that are to meet no failure.
use Rattle.std.specs.Prelude.{
  ◌≡◌,
  ◌⊎◌,
  ℕ,
  ◌≤◌,
  ◌<◌,
  List,
  [],
  ◌∷◌,
  ◌++◌,
  length,
  codes,
  Ok,
  Some,
  IsSome,
}
use Rattle.std.specs.List.{AllByRecursion}
use Rattle.away_trees.specs.declared.schemas.Schema.{Schema}
use Rattle.away_trees.specs.declared.schemas.TableSchema.{TableSchema}
use Rattle.away_trees.specs.declared.statements.Function.{Function}
use Rattle.away_types.specs.FunctionChecks.{resolved_function}
use Rattle.batch_calls.specs.CallTables.{IsCallTable}
use Rattle.away_top.specs.declared.status.Status.{Status}
use Rattle.away_top.specs.declared.status.Status.TheVariants.{Done, NoMemory, ReadFault}
use Rattle.away_top.specs.MemoryFiles.{HeldFiles, held_at}
use Rattle.away_top.specs.MemorySink.{RoomySink}
use Rattle.csv_tables.specs.Files.{rows_in}
use Rattle.sql_meaning.specs.Context.{Rows}
use Rattle.away_top.specs.declared.compile.Wanted.{Wanted}
use Rattle.away_top.specs.declared.over_tables.program.Runnable.{Runnable}
use Rattle.away_top.specs.BatchCourse.{IsBatchFor, place_of}
use Rattle.away_top.specs.Commands.{course}
use Rattle.away_top.specs.CompileCourse.{word_of}
use Rattle.stage_check.specs.declared.verdict.Verdict.{Verdict}
use Rattle.away_top.specs.Arguments.{bound_of}
use Rattle.away_top.specs.Certificates.{IsCert}
use Rattle.away_top.specs.CheckCourse.{IsVerdict, verdict_line, verdict_status}
use Rattle.away_top.specs.Course.{Course, gives, ends, judges, reads, Outcome}
use Rattle.away_top.specs.DemoCourse.{IsShown}
use Rattle.away_top.specs.Files.{asked_of, callable_of}
use Rattle.away_top.specs.ExpandCourse.{AllHeld, AllRead, IsExpandedFor}
use Rattle.away_top.specs.QueryExplainCourse.{EndsOnFile}
use Rattle.away_top.specs.FormatCourse.{IsFormatted}
use Rattle.away_top.specs.InlineCourse.{IsInlinedFor, IsReadableQuery, MayBeInlined}
use Rattle.expanding.specs.Expanded.{Refuses as RefusesExpanded}
use Rattle.program_check.specs.Refusing.{IsProgram as IsProgramOf}
use Rattle.cert_json.specs.Lines.{IsLine}
use Rattle.away_top.specs.Lines.{line, read_fault}
use Rattle.away_top.specs.Programs.{IsProgram, arguments_of, most_bytes, program_of}
use Rattle.away_top.specs.Refusals.{IsFunction, IsQuery, IsSchema, ReadsAsFunction}
use Rattle.away_top.specs.RunAnswers.{Held, IsAnswer, IsAnswered}
use Rattle.away_top.specs.TableFiles.{table_file}
use Rattle.away_top.specs.Translation.{IsTranslation}
use Rattle.away_top.specs.UntailCourse.{IsSelfCallerFile, IsUntailedFor}
use Rattle.tail_calls.specs.declared.refusals.Grown.{Grown}
use Rattle.tail_calls.specs.declared.refusals.WriteRefusal.TheVariants.{Limit}
use Rattle.tail_calls.specs.Untailed.{Refuses}

-- ---- all words

-- the status is answered, with exactly this output written
pub record IsCompiledQuery (before after : RoomySink) (result status : Status) (output : List ℕ) : Type 0 where
  pub status_is : result ≡ status
  pub bytes_are : after.bytes ≡ before.bytes ++ output

-- Memory was wanting, or there is one of these ends that the call tells, where the room holds its
-- output.
abbrev pub EndsIn : RoomySink → RoomySink → Status → (Status → List ℕ → Type 0) → Type 0
EndsIn before after result Ends =
    (result ≡ NoMemory)
    ⊎ ((status : Status) × (output : List ℕ) × Ends status output × (length output ≤ before.room → IsCompiledQuery before after result status output))

-- The end is one that the held files lead to. A name that isn't held leads to a read fault.
abbrev pub Ended : HeldFiles → RoomySink → RoomySink → Status → List (List ℕ) → Type 0
Ended files before after result words = (text : List ℕ) × EndsIn before after result (Outcome (held_at files.held) (course words text))

-- the first event is that this file is read
abbrev pub BeginsWith : {A : Type 0} → List ℕ → Course A → Type 0
BeginsWith name (gives a) = ⊥
BeginsWith name (ends E) = ⊥
BeginsWith name (judges E W next) = ⊥
BeginsWith name (reads first limit next) = first ≡ name

-- Memory was wanting, or the call tells that this file can't be read, where the room holds the
-- line.
abbrev pub Unread : RoomySink → RoomySink → Status → List ℕ → Type 0
Unread before after result name =
    (result ≡ NoMemory) ⊎ (length (read_fault name) ≤ before.room → IsCompiledQuery before after result ReadFault (read_fault name))

-- ---- compile and certify

-- a schema's file is within its limit, and reads as a schema that breaks no rule
pub record IsFitSchema (bytes : List ℕ) : Type 0 where
  pub short : length bytes ≤ 67108864
  pub is : IsSchema bytes

-- a function's file is within its limit, and reads as a function that breaks no rule over the
-- tables of the schema
pub record IsFitFunction (schema : Schema) (bytes : List ℕ) : Type 0 where
  pub short : length bytes ≤ 1048576
  pub is : IsFunction schema bytes

-- The words are those of the command. The two files are held and fit, and no read is to fail.
pub record MayCompile (files : HeldFiles) (wanted : Wanted) (words : List (List ℕ)) (tables function : List ℕ) : Type 0 where
  pub schema : List ℕ
  pub func : List ℕ
  pub words_are : words ≡ word_of wanted ∷ schema ∷ func ∷ []
  pub holds_schema : held_at files.held schema ≡ Some tables
  pub holds_function : held_at files.held func ≡ Some function
  pub fit_schema : IsFitSchema tables
  pub fit_function : IsFitFunction fit_schema.is.schema function
  pub no_failure : files.fails ≡ []

-- done, with exactly this text written
pub record IsWritten (before after : RoomySink) (result : Status) (text : List ℕ) : Type 0 where
  pub status_is : result ≡ Done
  pub bytes_are : after.bytes ≡ before.bytes ++ text

-- Memory was wanting, or there is a translation that the call answers with, where the room holds
-- it.
abbrev pub Translated : Wanted → RoomySink → RoomySink → Status → List ℕ → List ℕ → Type 0
Translated wanted before after result tables function =
    (result ≡ NoMemory)
    ⊎ ((text : List ℕ) × IsTranslation wanted tables function text
    × (length text ≤ before.room → IsWritten before after result text))

-- ---- batch

-- The words are those of `batch`. The two files are held and fit, the schema has the table, whose
-- rows are calls of the function, and no read is to fail.
pub record MayBatch (files : HeldFiles) (words : List (List ℕ)) (tables function table : List ℕ) : Type 0 where
  pub schema : List ℕ
  pub func : List ℕ
  pub words_are : words ≡ codes "batch" ∷ schema ∷ func ∷ table ∷ []
  pub holds_schema : held_at files.held schema ≡ Some tables
  pub holds_function : held_at files.held func ≡ Some function
  pub fit_schema : IsFitSchema tables
  pub fit_function : IsFitFunction fit_schema.is.schema function
  pub place : ℕ
  pub place_is : place_of table fit_schema.is.schema.tables ≡ Some place
  pub fit_table : IsCallTable fit_schema.is.schema place
      (resolved_function fit_schema.is.schema fit_function.is.written)
  pub no_failure : files.fails ≡ []

-- Memory was wanting, or there is a query for the table's calls that the call answers with, where
-- the room holds it.
abbrev pub Batched : RoomySink → RoomySink → Status → List ℕ → List ℕ → List ℕ → Type 0
Batched before after result tables function table =
    (result ≡ NoMemory)
    ⊎ ((text : List ℕ) × IsBatchFor tables function table text
    × (length text ≤ before.room → IsWritten before after result text))

-- ---- format

-- The function's file is held, is within its limit and reads as a function, and no read is to fail.
pub record MayFormat (files : HeldFiles) (func function : List ℕ) : Type 0 where
  pub holds_function : held_at files.held func ≡ Some function
  pub short : length function ≤ 1048576
  pub written : Function
  pub reads_as : ReadsAsFunction function written
  pub no_failure : files.fails ≡ []

-- Memory was wanting, or there is the text of the function that the call writes, where the room
-- holds it.
abbrev pub Formatted : RoomySink → RoomySink → Status → List ℕ → Type 0
Formatted before after result function =
    (result ≡ NoMemory)
    ⊎ ((text : List ℕ) × IsFormatted function text
    × (length text ≤ before.room → IsWritten before after result text))

-- ---- untail

-- The files of the schema and the function are held and within their limits. The function's may call
-- itself, and what it becomes exceeds no limit. No read is to fail.
pub record MayUntail (files : HeldFiles) (schema func tables function : List ℕ) : Type 0 where
  pub holds_schema : held_at files.held schema ≡ Some tables
  pub holds_function : held_at files.held func ≡ Some function
  pub fit_schema : IsFitSchema tables
  pub short : length function ≤ 1048576
  pub is : IsSelfCallerFile fit_schema.is.schema function
  pub small : (which : Grown) (found : ℕ) → Refuses fit_schema.is.schema is.written (Limit which found) → ⊥
  pub no_failure : files.fails ≡ []

-- Memory was wanting, or there is the text that the call writes, where the room holds it.
abbrev pub Untailed : RoomySink → RoomySink → Status → List ℕ → List ℕ → Type 0
Untailed before after result tables function =
    (result ≡ NoMemory)
    ⊎ ((text : List ℕ) × IsUntailedFor tables function text
    × (length text ≤ before.room → IsWritten before after result text))

-- ---- expand

-- The files of the schema and the functions are held and within their limits. The functions are a
-- program, and what its main one becomes exceeds no limit. No read is to fail.
pub record MayExpand (files : HeldFiles) (schema main : List ℕ) (others : List (List ℕ))
    (tables : List ℕ) (held : List (List ℕ)) : Type 0 where
  pub holds_schema : held_at files.held schema ≡ Some tables
  pub few : length others < 4294967295
  pub holds_functions : AllHeld (held_at files.held) (main ∷ others) held
  pub fit_schema : IsFitSchema tables
  pub short : AllByRecursion (λ function. length function ≤ 1048576) held
  pub functions : List Function
  pub read : AllRead held functions
  pub program : IsProgramOf functions fit_schema.is.schema
  pub small : (which : Grown) (found : ℕ)
      → RefusesExpanded fit_schema.is.schema functions (Limit which found) → ⊥
  pub no_failure : files.fails ≡ []

-- Memory was wanting, or there is the text that the call writes, where the room holds it.
abbrev pub Expanded : RoomySink → RoomySink → Status → List ℕ → List (List ℕ) → Type 0
Expanded before after result tables held =
    (result ≡ NoMemory)
    ⊎ ((text : List ℕ) × IsExpandedFor tables held text
    × (length text ≤ before.room → IsWritten before after result text))

-- ---- inline

-- The files of the schema, the query and the function are held and within their limits. The schema
-- and the function break no rule. The function's calls in the query may be replaced, whatever its
-- forms are, and what is written nests no deeper than is read. No read is to fail.
pub record MayInline (files : HeldFiles) (schema query func tables calling function : List ℕ)
    : Type 0 where
  pub holds_schema : held_at files.held schema ≡ Some tables
  pub holds_query : held_at files.held query ≡ Some calling
  pub holds_function : held_at files.held func ≡ Some function
  pub fit_schema : IsFitSchema tables
  pub short : length calling ≤ 67108864
  pub is : IsReadableQuery calling
  pub fit_function : IsFitFunction fit_schema.is.schema function
  pub may : MayBeInlined fit_schema.is.schema is.written fit_function.is.written
  pub no_failure : files.fails ≡ []

-- Memory was wanting, or there is the text that the call writes, where the room holds it.
abbrev pub InlinedIn : RoomySink → RoomySink → Status → List ℕ → List ℕ → List ℕ → Type 0
InlinedIn before after result tables calling function =
    (result ≡ NoMemory)
    ⊎ ((text : List ℕ) × IsInlinedFor tables calling function text
    × (length text ≤ before.room → IsWritten before after result text))

-- ---- explain

-- The files of the schema and the function or the query are held, the schema breaks no rule, and
-- each file is within the limit of a query's. No read is to fail.
pub record MayExplain (files : HeldFiles) (schema func tables function : List ℕ) : Type 0 where
  pub holds_schema : held_at files.held schema ≡ Some tables
  pub holds_function : held_at files.held func ≡ Some function
  pub fit_schema : IsFitSchema tables
  pub short : length function ≤ 67108864
  pub no_failure : files.fails ≡ []

-- Memory was wanting, or there is what is told of the file, where the room holds it.
abbrev pub Explained : RoomySink → RoomySink → Status → List ℕ → Schema → List ℕ → Type 0
Explained before after result func s function =
    EndsIn before after result
    (λ status output. (text : List ℕ) × EndsOnFile func s function text status output)

-- ---- demo

-- Memory was wanting, or there is a summary of the case that the call writes, where the room holds
-- it.
abbrev pub Shown : RoomySink → RoomySink → Status → List ℕ → Type 0
Shown before after result word =
    (result ≡ NoMemory)
    ⊎ ((output : List ℕ) × IsShown word output
    × (length output ≤ before.room → IsWritten before after result output))

-- ---- sql, rows and fn

-- a program's file is within its limit, reads as one that breaks no rule over the tables of the
-- schema, and the words spell its arguments
pub record IsFitProgram (what : Runnable) (schema : Schema) (bytes : List ℕ) (args : List (List ℕ)) : Type 0 where
  pub short : length bytes ≤ most_bytes what
  pub is : IsProgram what schema bytes
  pub spelled : IsSome (arguments_of (program_of what schema bytes is) args)

-- a table's file is held, is within its limit, and holds rows
pub record IsFitTable (held : Held) (dir : List ℕ) (t : TableSchema) : Type 0 where
  pub bytes : List ℕ
  pub holds : held (table_file dir t.name) ≡ Some bytes
  pub short : length bytes ≤ 67108864
  pub rows : Rows
  pub rows_are : rows_in t bytes ≡ Ok rows

-- The words behind the first spell a bound, their files are held and fit, and no read is to fail.
pub record MayRun (what : Runnable) (files : HeldFiles) (bound schema file dir : List ℕ) (args : List (List ℕ)) : Type 0 where
  pub spells_bound : IsSome (bound_of bound)
  pub tables : List ℕ
  pub program : List ℕ
  pub holds_schema : held_at files.held schema ≡ Some tables
  pub holds_program : held_at files.held file ≡ Some program
  pub fit_schema : IsFitSchema tables
  pub fit_program : IsFitProgram what fit_schema.is.schema program args
  pub fit_tables : AllByRecursion (IsFitTable (held_at files.held) dir) fit_schema.is.schema.tables
  pub no_failure : files.fails ≡ []

-- Memory was wanting, or there is what the program gives that the call tells, where the room holds
-- it.
abbrev pub Answered : Runnable → HeldFiles → RoomySink → RoomySink → Status → List ℕ → List ℕ → List ℕ → List ℕ → List (List ℕ) → Type 0
Answered what files before after result bound schema file dir args =
    EndsIn before after result (λ status output. IsAnswer status × IsAnswered what (held_at files.held) bound schema file dir args status output)

-- ---- check

-- a query's file is within its limit, and reads as a query that breaks no rule over the tables of
-- the schema
pub record IsFitAsked (schema : Schema) (bytes : List ℕ) : Type 0 where
  pub short : length bytes ≤ 67108864
  pub is : IsQuery schema bytes

-- a certificate's file is within its limit, and reads as a certificate
pub record IsFitCert (bytes : List ℕ) : Type 0 where
  pub short : length bytes ≤ 67108864
  pub is : IsCert bytes

-- The four files behind `check` are held and fit, and no read is to fail.
pub record MayCheck (files : HeldFiles) (schema func query cert tables function asked forms : List ℕ) : Type 0 where
  pub holds_schema : held_at files.held schema ≡ Some tables
  pub holds_function : held_at files.held func ≡ Some function
  pub holds_query : held_at files.held query ≡ Some asked
  pub holds_cert : held_at files.held cert ≡ Some forms
  pub fit_schema : IsFitSchema tables
  pub fit_function : IsFitFunction fit_schema.is.schema function
  pub fit_query : IsFitAsked fit_schema.is.schema asked
  pub fit_cert : IsFitCert forms
  pub no_failure : files.fails ≡ []

-- the verdict on what these bytes read as, and what it promises
pub record HasVerdict (tables function asked forms : List ℕ) (v : Verdict) : Type 0 where
  pub schema : IsSchema tables
  pub called : IsFunction schema.schema function
  pub query : IsQuery schema.schema asked
  pub certificate : IsCert forms
  pub verdict : IsVerdict schema.schema (callable_of schema.schema called.written) (asked_of schema.schema query.written) certificate.cert v

-- Memory was wanting, or there is the verdict that the call tells, where the room holds its line.
abbrev pub Judged : RoomySink → RoomySink → Status → List ℕ → List ℕ → List ℕ → List ℕ → Type 0
Judged before after result tables function asked forms =
    (result ≡ NoMemory)
    ⊎ ((v : Verdict) × HasVerdict tables function asked forms v
    × (length (verdict_line v) ≤ before.room → IsCompiledQuery before after result (verdict_status v) (verdict_line v)))

-- Memory was wanting, or the call accepts, where the room holds its line.
abbrev pub AcceptedIn : RoomySink → RoomySink → Status → Type 0
AcceptedIn before after result =
    (result ≡ NoMemory)
    ⊎ (length (line (codes "accepted")) ≤ before.room → IsCompiledQuery before after result Done (line (codes "accepted")))

-- What `certify` wrote of these bytes is this line and, behind its end, this text. The four files
-- behind `check` hold the bytes, the text and the line, each is within its limit, and no read is to
-- fail.
pub record HoldsCertified (written : List ℕ) (files : HeldFiles) (schema func query cert tables function : List ℕ) : Type 0 where
  pub line : List ℕ
  pub text : List ℕ
  pub written_is : written ≡ line ++ (10 ∷ text)
  pub is_line : IsLine line
  pub holds_schema : held_at files.held schema ≡ Some tables
  pub holds_function : held_at files.held func ≡ Some function
  pub holds_query : held_at files.held query ≡ Some text
  pub holds_cert : held_at files.held cert ≡ Some line
  pub short_schema : length tables ≤ 67108864
  pub short_function : length function ≤ 1048576
  pub short_query : length text ≤ 67108864
  pub short_cert : length line ≤ 67108864
  pub no_failure : files.fails ≡ []
