-- `compile SCHEMA FUNC` and `certify SCHEMA FUNC`: the query of a function is written, alone or
-- behind a certificate.
use Rattle.std.specs.Prelude.{◌≡◌, ℕ, List, ◌∷◌, ◌++◌, codes}
use Rattle.away_trees.specs.declared.queries.Query.{Query as QueryTree}
use Rattle.away_trees.specs.declared.schemas.Schema.{Schema}
use Rattle.away_trees.specs.declared.statements.Function.{Function}
use Rattle.away_types.specs.CheckedFunctions.{IsChecked}
use Rattle.away_types.specs.CheckedQueries.{resolved_query}
use Rattle.cert_json.specs.Certificates.{Reads}
use Rattle.cert_json.specs.Lines.{IsLine}
use Rattle.cert_json.specs.Forms.{Cert}
use Rattle.compiling.specs.Compiled.{IsCompiled}
use Rattle.equivalence.specs.Accepted.{EquivalentWith}
use Rattle.away_top.specs.declared.compile.Wanted.{Wanted}
use Rattle.away_top.specs.declared.compile.Wanted.TheVariants.{Query, Certificate}
use Rattle.away_top.specs.declared.status.Status.{Status}
use Rattle.away_top.specs.declared.status.Status.TheVariants.{Done}
use Rattle.away_top.specs.Course.{Course, Exactly}
use Rattle.away_top.specs.Files.{Callable, over_function}

-- The output is the text alone. Or it is a line that reads as the certificate, and behind it the
-- text.
abbrev pub IsOutput : Wanted → Cert → List ℕ → List ℕ → Type 0
IsOutput Query forms text output = output ≡ text
IsOutput Certificate forms text output = (line : List ℕ) × Reads line forms × IsLine line × (output ≡ line ++ (10 ∷ text))

-- The text is compiled from the function over the tables of the schema, with these forms between
-- the function and its query. So the query is equivalent to the function, where that is checked
-- under the schema.
pub record IsCompiledFrom (s : Schema) (f : Callable) (forms : Cert) (text : List ℕ) : Type 0 where
  pub query : QueryTree
  pub compiled : IsCompiled s f.function f.slots query text forms
  pub equivalent : (written : Function) → IsChecked s written f.function f.slots → EquivalentWith s f.function f.slots (resolved_query s query)

-- the output is what is wanted of such a text
pub record IsWritten (wanted : Wanted) (s : Schema) (f : Callable) (output : List ℕ) : Type 0 where
  pub forms : Cert
  pub text : List ℕ
  pub is : IsCompiledFrom s f forms text
  pub output_is : IsOutput wanted forms text output

-- the end of a run that writes this
abbrev pub Compiles : Wanted → Schema → Callable → List ℕ → Status → List ℕ → Type 0
Compiles wanted s f made status output = IsWritten wanted s f made × Exactly Done made status output

-- the command that asks for it
abbrev pub word_of : Wanted → List ℕ
word_of Query = codes "compile"
word_of Certificate = codes "certify"

abbrev pub compile_course : Wanted → List ℕ → List ℕ → List ℕ → Course ⊥
compile_course wanted schema func made = over_function schema func (λ s f. Compiles wanted s f made)
