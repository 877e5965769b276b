-- `format FUNC`: the function that a file reads as is written as the one text that it prints as.
use Rattle.std.specs.Prelude.{◌≡◌, ◌⊎◌, ℕ, IsUtf8, List, [], ◌∷◌, Some, codes}
use Rattle.std.specs.declared.option.Option.{Option}
use Rattle.std.specs.Io.KnownBytes.{Appends}
use Rattle.away_trees.specs.declared.statements.Function.{Function}
use Rattle.away_grammar.specs.FunctionGrammar.{ReadsFunction}
use Rattle.plsql_parse.specs.Refusals as functions
use Rattle.function_printer.specs.FunctionTexts.{function_text}
use Rattle.away_top.specs.declared.status.Status.{Status}
use Rattle.away_top.specs.declared.status.Status.TheVariants.{Done}
use Rattle.away_top.specs.Course.{Course, RefusedBy, ends, judges, reads}
use Rattle.away_top.specs.Refusals.{ReadsAsFunction, RefusesRead}

-- the bytes read as a function
pub record IsReadable (bytes : List ℕ) : Type 0 where
  pub written : Function
  pub reads_as : ReadsAsFunction bytes written

-- The output is the text of the function, which reads as it.
pub record IsPrinted (function : Function) (output : List ℕ) : Type 0 where
  pub text_is : output ≡ function_text function
  pub reads : ReadsFunction output function

-- The end of a run that writes the text of a function, which reads as it where some text does.
abbrev pub Prints : Function → Status → List ℕ → Type 0
Prints function status output =
    (output ≡ function_text function)
    × ((bytes : List ℕ) → IsUtf8 bytes
    → ReadsFunction bytes function → ReadsFunction output function)
    × (status ≡ Done)

-- the end of a run that writes a function which its file reads as
abbrev pub Formats : Function → Status → List ℕ → Type 0
Formats function status output = IsPrinted function output × (status ≡ Done)

-- how a run ends at these bytes of the file
abbrev pub EndsOn : List ℕ → List ℕ → Status → List ℕ → Type 0
EndsOn func bytes status output =
    RefusedBy func (RefusesRead (functions.Refuses bytes)) status output
    ⊎ ((f : IsReadable bytes) × Formats f.written status output)

-- The file is read, and refused by the rules of its reader alone.
abbrev pub format_course : List ℕ → Course ⊥
format_course func =
    reads func 1048576
    (λ bytes. judges (RefusedBy func (RefusesRead (functions.Refuses bytes))) (IsReadable bytes)
    (λ f. ends (Formats f.written)))

-- ---- the whole run

-- The bytes of the file read as a function, and the output is its text, which reads as it too.
pub record IsFormatted (func output : List ℕ) : Type 0 where
  pub function : IsReadable func
  pub printed : IsPrinted function.written output

-- Where the words are those of `format` and the file tells what it holds, such a text was written.
abbrev pub WritesFunction : (List ℕ → Option (List ℕ)) → Option (List ℕ) → Option (List ℕ)
    → List (List ℕ) → Type 0
WritesFunction held before after words =
    (func function : List ℕ) → words ≡ codes "format" ∷ func ∷ [] → held func ≡ Some function
    → (output : List ℕ) × IsFormatted function output × Appends before after output
