-- The stretches of `check` make its run.
use Rattle.std.proofs.Common.{ℕ, List}
use Rattle.away_trees.specs.declared.schemas.Schema.{Schema}
use Rattle.cert_json.specs.Forms.{Cert}
use Rattle.away_top.specs.declared.host.Files.{Ghosts as Files}
use Rattle.away_top.specs.declared.ending.Halt.{Halt}
use Rattle.away_top.specs.Certificates.{cert_course}
use Rattle.away_top.specs.CheckCourse.{IsJudgedSo, check_course, with_function, with_query, with_schema}
use Rattle.away_top.specs.Course.{Course, ends}
use Rattle.away_top.specs.Files.{Asked, Callable, function_course, query_course, schema_course}
use Rattle.away_top.specs.Runs.{End, goes_on, Follows, IsEnd}
use Rattle.away_top.specs.Steps.{halt_end}
use Rattle.away_top.proofs.Reaching.{Reached, at_start, ends_here, further, stops}

module _ {D : Type 0} (F : Files D) (old : D) (schema func query cert : List ℕ) where
  abbrev pub whole : Course ⊥
  whole = check_course schema func query cert

  -- a file is judged, and the run goes on
  pub with_tables : (later : D) (s : Schema) → Follows F old (schema_course schema) later (goes_on s) → Reached F old later whole (with_schema s func query cert)
  with_tables later s h = further F old old whole later (schema_course schema) (λ s. with_schema s func query cert) s (at_start F old whole) h

  pub with_callable : (now later : D) (s : Schema) (f : Callable) → Reached F old now whole (with_schema s func query cert) → Follows F now (function_course s func) later (goes_on f)
      → Reached F old later whole (with_function s f query cert)
  with_callable now later s f r h = further F old now whole later (function_course s func) (λ f. with_function s f query cert) f r h

  pub with_asked : (now later : D) (s : Schema) (f : Callable) (q : Asked) → Reached F old now whole (with_function s f query cert) → Follows F now (query_course s query) later (goes_on q)
      → Reached F old later whole (with_query s f q cert)
  with_asked now later s f q r h = further F old now whole later (query_course s query) (λ q. with_query s f q cert) q r h

  -- the forms are judged
  pub verdict : (now later : D) (s : Schema) (f : Callable) (q : Asked) (c : Cert) (end : End ⊥) → Reached F old now whole (with_query s f q cert)
      → Follows F now (cert_course cert) later (goes_on c) → IsEnd (IsJudgedSo s f q c) end → Follows F old whole later end
  verdict now later s f q c end r h is = ends_here F old later whole (IsJudgedSo s f q c) end (further F old now whole later (cert_course cert) (λ c. ends (IsJudgedSo s f q c)) c r h) is

  -- a file ends the run
  pub schema_stops : (later : D) (halt : Halt) → Follows F old (schema_course schema) later (halt_end halt) → Follows F old whole later (halt_end halt)
  schema_stops later halt h = stops F old old whole later (schema_course schema) (λ s. with_schema s func query cert) halt (at_start F old whole) h

  pub function_stops : (now later : D) (s : Schema) (halt : Halt) → Reached F old now whole (with_schema s func query cert) → Follows F now (function_course s func) later (halt_end halt)
      → Follows F old whole later (halt_end halt)
  function_stops now later s halt r h = stops F old now whole later (function_course s func) (λ f. with_function s f query cert) halt r h

  pub query_stops : (now later : D) (s : Schema) (f : Callable) (halt : Halt) → Reached F old now whole (with_function s f query cert) → Follows F now (query_course s query) later (halt_end halt)
      → Follows F old whole later (halt_end halt)
  query_stops now later s f halt r h = stops F old now whole later (query_course s query) (λ q. with_query s f q cert) halt r h

  pub cert_stops : (now later : D) (s : Schema) (f : Callable) (q : Asked) (halt : Halt) → Reached F old now whole (with_query s f q cert) → Follows F now (cert_course cert) later (halt_end halt)
      → Follows F old whole later (halt_end halt)
  cert_stops now later s f q halt r h = stops F old now whole later (cert_course cert) (λ c. ends (IsJudgedSo s f q c)) halt r h
