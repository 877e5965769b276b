-- What `check` answers where it accepts, in the words of its files.
use Rattle.std.specs.Prelude.{◌≡◌, ℕ, List, [], ◌∷◌, codes}
use Rattle.std.specs.declared.option.Option.{Option}
use Rattle.std.specs.Io.KnownBytes.{Appends}
use Rattle.away_types.specs.CheckedQueries.{resolved_query}
use Rattle.away_types.specs.FunctionChecks.{resolved_function, slots_of}
use Rattle.equivalence.specs.Accepted.{AcceptedForms, EquivalentWith}
use Rattle.away_top.specs.Certificates.{IsCert}
use Rattle.away_top.specs.Lines.{line}
use Rattle.away_top.specs.RunAnswers.{AreBytesOf, Held}
use Rattle.away_top.specs.Refusals.{IsFunction, IsQuery, IsSchema}

-- The forms of the certificate that its file reads as stand between the function that its file
-- reads as and the query that its file reads as, over the schema that its file reads as. So the
-- query, with its names resolved, is equivalent to the function.
pub record IsAccepted (held : Held) (schema func query cert : List ℕ) : Type 0 where
  pub schema_bytes : List ℕ
  pub holds_schema : AreBytesOf held schema schema_bytes
  pub tables : IsSchema schema_bytes
  pub function_bytes : List ℕ
  pub holds_function : AreBytesOf held func function_bytes
  pub function : IsFunction tables.schema function_bytes
  pub query_bytes : List ℕ
  pub holds_query : AreBytesOf held query query_bytes
  pub asked : IsQuery tables.schema query_bytes
  pub cert_bytes : List ℕ
  pub holds_cert : AreBytesOf held cert cert_bytes
  pub certificate : IsCert cert_bytes
  pub accepted : AcceptedForms tables.schema (resolved_function tables.schema function.written) (slots_of tables.schema function.written)
      certificate.cert (resolved_query tables.schema asked.written)
  pub equivalent : EquivalentWith tables.schema (resolved_function tables.schema function.written) (slots_of tables.schema function.written)
      (resolved_query tables.schema asked.written)

-- Where the words are those of `check`, its files are accepted, and that was written.
abbrev pub Accepts : Held → Option (List ℕ) → Option (List ℕ) → List (List ℕ) → Type 0
Accepts held before after words =
    (schema func query cert : List ℕ) → words ≡ codes "check" ∷ schema ∷ func ∷ query ∷ cert ∷ []
    → IsAccepted held schema func query cert × Appends before after (line (codes "accepted"))
