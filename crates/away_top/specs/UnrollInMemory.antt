-- What calls of `unroll` and `unrolled` answer over files and a sink in memory that are to meet no
-- failure.
use Rattle.std.specs.Prelude.{◌≡◌, ◌⊎◌, ℕ, ◌≤◌, List, [], length, Some, IsSome}
use Rattle.std.specs.List.{AllByRecursion}
use Rattle.away_types.specs.FunctionChecks.{resolved_function}
use Rattle.away_top.specs.declared.status.Status.{Status}
use Rattle.away_top.specs.declared.status.Status.TheVariants.{NoMemory}
use Rattle.away_top.specs.Arguments.{bound_of, values_for}
use Rattle.away_top.specs.InMemory.{
  EndsIn,
  IsFitFunction,
  IsFitSchema,
  IsFitTable,
  IsWritten,
}
use Rattle.away_top.specs.MemoryFiles.{HeldFiles, held_at}
use Rattle.away_top.specs.MemorySink.{RoomySink}
use Rattle.away_top.specs.RunAnswers.{IsAnswer}
use Rattle.away_top.specs.UnrollCourse.{IsUnrolledFor, turns_of}
use Rattle.away_top.specs.UnrolledCourse.{IsUnrolledAnswer}

-- The word spells a number of turns. The two files are held and fit, and no read is to fail.
pub record MayUnroll (files : HeldFiles) (turns schema func tables function : List ℕ) : Type 0 where
  pub spells_turns : IsSome (turns_of turns)
  pub holds_schema : held_at files.held schema ≡ Some tables
  pub holds_function : held_at files.held func ≡ Some function
  pub fit_schema : IsFitSchema tables
  pub fit_function : IsFitFunction fit_schema.is.schema function
  pub no_failure : files.fails ≡ []

-- Memory was wanting, or there is the text that the call writes, where the room holds it.
abbrev pub UnrolledIn : RoomySink → RoomySink → Status → List ℕ → List ℕ → List ℕ → Type 0
UnrolledIn before after result turns tables function =
    (result ≡ NoMemory)
    ⊎ ((text : List ℕ) × IsUnrolledFor turns tables function text
    × (length text ≤ before.room → IsWritten before after result text))

-- The words spell a bound, a number of turns and the function's arguments. The files are held and
-- fit, and no read is to fail.
pub record MayRunUnrolled (files : HeldFiles) (bound turns schema func dir : List ℕ)
    (args : List (List ℕ)) : Type 0 where
  pub spells_bound : IsSome (bound_of bound)
  pub spells_turns : IsSome (turns_of turns)
  pub tables : List ℕ
  pub function : List ℕ
  pub holds_schema : held_at files.held schema ≡ Some tables
  pub holds_function : held_at files.held func ≡ Some function
  pub fit_schema : IsFitSchema tables
  pub fit_function : IsFitFunction fit_schema.is.schema function
  pub spells : IsSome (values_for
      (resolved_function fit_schema.is.schema fit_function.is.written).params args)
  pub fit_tables : AllByRecursion (IsFitTable (held_at files.held) dir) fit_schema.is.schema.tables
  pub no_failure : files.fails ≡ []

-- Memory was wanting, or there is what the query gives that the call tells, where the room holds
-- it.
abbrev pub AnsweredInTurns : HeldFiles → RoomySink → RoomySink → Status → List ℕ → List ℕ → List ℕ
    → List ℕ → List ℕ → List (List ℕ) → Type 0
AnsweredInTurns files before after result bound turns schema func dir args =
    EndsIn before after result
    (λ status output. IsAnswer status
    × IsUnrolledAnswer (held_at files.held) bound turns schema func dir args status output)
