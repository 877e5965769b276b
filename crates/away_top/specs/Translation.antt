-- What `compile` and `certify` write, in the words of their files.
use Rattle.std.specs.Prelude.{◌≡◌, ℕ, List, [], ◌∷◌, Some}
use Rattle.std.specs.declared.option.Option.{Option}
use Rattle.std.specs.Io.KnownBytes.{Appends}
use Rattle.away_trees.specs.declared.queries.Query.{Query}
use Rattle.away_types.specs.CheckedQueries.{resolved_query}
use Rattle.away_types.specs.FunctionChecks.{resolved_function, slots_of}
use Rattle.cert_json.specs.Forms.{Cert}
use Rattle.compiling.specs.Compiled.{IsCompiled}
use Rattle.equivalence.specs.Accepted.{EquivalentWith}
use Rattle.away_top.specs.declared.compile.Wanted.{Wanted}
use Rattle.away_top.specs.CompileCourse.{IsOutput, word_of}
use Rattle.away_top.specs.Refusals.{IsFunction, IsSchema}

-- The bytes of one file read as a schema, and those of the other as a function; neither breaks a
-- rule. The text reads as a query that breaks no rule, and the forms stand between the function and
-- the query, both with their names resolved. So the query is equivalent to the function. What was
-- written is the text, alone or behind a line that reads as the certificate with these forms.
pub record IsTranslation (wanted : Wanted) (schema func output : List ℕ) : Type 0 where
  pub tables : IsSchema schema
  pub function : IsFunction tables.schema func
  pub query : Query
  pub forms : Cert
  pub text : List ℕ
  pub compiled : IsCompiled tables.schema (resolved_function tables.schema function.written)
      (slots_of tables.schema function.written) query text forms
  pub equivalent : EquivalentWith tables.schema (resolved_function tables.schema function.written) (slots_of tables.schema function.written)
      (resolved_query tables.schema query)
  pub output_is : IsOutput wanted forms text output

-- Where the words are those of the command and the files tell what they hold, a translation of them
-- was written.
abbrev pub Translates : Wanted → (List ℕ → Option (List ℕ)) → Option (List ℕ) → Option (List ℕ) → List (List ℕ) → Type 0
Translates wanted held before after words =
    (schema func tables function : List ℕ) → words ≡ word_of wanted ∷ schema ∷ func ∷ []
    → held schema ≡ Some tables → held func ≡ Some function
    → (text : List ℕ) × IsTranslation wanted tables function text × Appends before after text
