-- That what a file reads as and is judged to be excludes its refusals.
use Rattle.std.specs.Prelude.{◌≡◌, ℕ, List}
use Rattle.away_trees.specs.declared.schemas.Schema.{Schema}
use Rattle.away_trees.specs.declared.statements.Function.{Function}
use Rattle.away_trees.specs.declared.queries.Query.{Query}
use Rattle.block_forms.specs.declared.forms.Goto.{Goto}
use Rattle.inline_calls.specs.Refusing.{AreCalls, RefusesCalls}
use Rattle.inline_calls.specs.declared.refusals.CallsRefusal.{CallsRefusal}
use Rattle.inline_calls.specs.declared.refusals.CallsRefusal.TheVariants.{NoMemory}
use Rattle.inline_law.specs.Filled.{CallingSelect}
use Rattle.plsql_parse.specs.Refusals as functions
use Rattle.program_check.specs.Refusing.{IsProgram}
use Rattle.away_top.specs.Certificates.{IsCert, RefusesCert}
use Rattle.away_top.specs.ExpandCourse.{BreaksProgram}
use Rattle.away_top.specs.FormatCourse.{IsReadable}
use Rattle.away_top.specs.InlineCourse.{IsReadableQuery, RefusesText}
use Rattle.away_top.specs.Refusals.{
  IsFunction,
  IsQuery,
  IsRowQuery,
  IsSchema,
  RefusesFunction,
  RefusesQuery,
  RefusesRead,
  RefusesRowQuery,
  RefusesSchema,
}
use Rattle.away_top.specs.UntailCourse.{IsSelfCallerFile, RefusesSelfCaller}

abbrev pub FitSchemasAreNotRefused : Type 0
FitSchemasAreNotRefused = (bytes rule : List ℕ) → IsSchema bytes → ¬ (RefusesSchema bytes rule)

abbrev pub FitFunctionsAreNotRefused : Type 0
FitFunctionsAreNotRefused = (schema : Schema) (bytes rule : List ℕ) → IsFunction schema bytes → ¬ (RefusesFunction schema bytes rule)

-- one that may call itself in whole RETURNs
abbrev pub FitSelfCallersAreNotRefused : Type 0
FitSelfCallersAreNotRefused = (schema : Schema) (bytes rule : List ℕ)
    → IsSelfCallerFile schema bytes → ¬ (RefusesSelfCaller schema bytes rule)

-- one that is read alone, by the rules of its reader
abbrev pub FitReadablesAreNotRefused : Type 0
FitReadablesAreNotRefused = (bytes rule : List ℕ)
    → IsReadable bytes → ¬ (RefusesRead (functions.Refuses bytes) rule)

-- those that call one another
abbrev pub FitProgramsAreNotRefused : Type 0
FitProgramsAreNotRefused = (schema : Schema) (program : List Function) (file : ℕ) (rule : List ℕ)
    → IsProgram program schema → ¬ (BreaksProgram schema program file rule)

abbrev pub FitQueriesAreNotRefused : Type 0
FitQueriesAreNotRefused = (schema : Schema) (bytes rule : List ℕ) → IsQuery schema bytes → ¬ (RefusesQuery schema bytes rule)

abbrev pub FitRowQueriesAreNotRefused : Type 0
FitRowQueriesAreNotRefused = (schema : Schema) (bytes rule : List ℕ) → IsRowQuery schema bytes → ¬ (RefusesRowQuery schema bytes rule)

-- one that is read alone, by the rules of its reader
abbrev pub FitReadableQueriesAreNotRefused : Type 0
FitReadableQueriesAreNotRefused = (bytes rule : List ℕ)
    → IsReadableQuery bytes → ¬ (RefusesText bytes rule)

-- one whose calls of a function may be replaced, for any goto form of the function
abbrev pub FitCallsAreNotRefused : Type 0
FitCallsAreNotRefused = (schema : Schema) (f : Function) (goto : Goto) (q : Query)
    (calls : CallingSelect) (e : CallsRefusal) → AreCalls schema f goto q calls
    → RefusesCalls schema f goto q e → e ≡ NoMemory

abbrev pub FitCertificatesAreNotRefused : Type 0
FitCertificatesAreNotRefused = (bytes rule : List ℕ) → IsCert bytes → ¬ (RefusesCert bytes rule)
