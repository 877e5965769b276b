-- What `sql`, `rows` and `fn` answer, in the words of their files.
use Rattle.std.specs.Prelude.{◌≡◌, ℕ, List, ◌∷◌, Ok, Some, IfSome}
use Rattle.std.specs.List.{AllZip}
use Rattle.std.specs.declared.option.Option.{Option}
use Rattle.std.specs.Io.KnownBytes.{Appends}
use Rattle.away_values.specs.declared.values.Value.{Value}
use Rattle.away_trees.specs.declared.schemas.TableSchema.{TableSchema}
use Rattle.csv_tables.specs.Files.{rows_in}
use Rattle.sql_meaning.specs.Context.{Rows}
use Rattle.away_top.specs.declared.over_tables.program.Runnable.{Runnable}
use Rattle.away_top.specs.declared.status.Status.{Status}
use Rattle.away_top.specs.declared.status.Status.TheVariants.{
  Done,
  Refused,
  Usage,
  ReadFault,
  WriteFault,
  NoMemory,
  More,
  Fault,
  NotAccepted,
  Shape,
}
use Rattle.away_top.specs.Arguments.{bound_of}
use Rattle.away_top.specs.Programs.{IsProgram, arguments_of, program_of, reply_of, word_of}
use Rattle.away_top.specs.Refusals.{IsSchema}
use Rattle.away_top.specs.RunCourse.{Tells}
use Rattle.away_top.specs.TableFiles.{table_file}

-- a status by which an answer is told, or rows
abbrev pub IsAnswer : Status → Type 0
IsAnswer Done = Unit {0}
IsAnswer Refused = ⊥
IsAnswer Usage = ⊥
IsAnswer ReadFault = ⊥
IsAnswer WriteFault = ⊥
IsAnswer NoMemory = ⊥
IsAnswer More = Unit {0}
IsAnswer Fault = Unit {0}
IsAnswer NotAccepted = ⊥
IsAnswer Shape = Unit {0}

-- what names hold, where it is told
abbrev pub Held : Type 0
Held = List ℕ → Option (List ℕ)

-- these bytes are what the name holds, where that is told
abbrev pub AreBytesOf : Held → List ℕ → List ℕ → Type 0
AreBytesOf held name bytes = IfSome (held name) (λ known. bytes ≡ known)

-- the file of a table holds these rows
pub record HoldsRows (held : Held) (dir : List ℕ) (t : TableSchema) (rows : Rows) : Type 0 where
  pub bytes : List ℕ
  pub are_its : AreBytesOf held (table_file dir t.name) bytes
  pub rows_are : rows_in t bytes ≡ Ok rows

-- The status and the output tell what the program gives, within the bound, that its file reads as,
-- with the arguments that the words spell, over the tables that their files hold.
pub record IsAnswered (what : Runnable) (held : Held) (bound schema file dir : List ℕ) (args : List (List ℕ)) (status : Status) (output : List ℕ) : Type 0 where
  pub most : ℕ
  pub bound_is : bound_of bound ≡ Some most
  pub schema_bytes : List ℕ
  pub holds_schema : AreBytesOf held schema schema_bytes
  pub tables : IsSchema schema_bytes
  pub file_bytes : List ℕ
  pub holds_file : AreBytesOf held file file_bytes
  pub program : IsProgram what tables.schema file_bytes
  pub values : List Value
  pub arguments_are : arguments_of (program_of what tables.schema file_bytes program) args ≡ Some values
  pub rows : List Rows
  pub holds_tables : AllZip (HoldsRows held dir) tables.schema.tables rows
  pub tells : Tells (reply_of (program_of what tables.schema file_bytes program) rows values most) status output

-- Where the words are those of its command, its answer was told.
abbrev pub AnswersRun : Runnable → Held → Option (List ℕ) → Option (List ℕ) → List (List ℕ) → Status → Type 0
AnswersRun what held before after words result =
    (bound schema file dir : List ℕ) (args : List (List ℕ)) → words ≡ word_of what ∷ bound ∷ schema ∷ file ∷ dir ∷ args
    → (output : List ℕ) × IsAnswered what held bound schema file dir args result output × Appends before after output
