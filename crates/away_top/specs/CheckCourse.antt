-- `check SCHEMA FUNC QUERY CERT`: whether the forms of a certificate stand between a function and a
-- query.
use Rattle.std.specs.Prelude.{ℕ, List, ◌++◌, codes}
use Rattle.std.specs.Fmt.{decimal}
use Rattle.away_trees.specs.declared.schemas.Schema.{Schema}
use Rattle.away_trees.specs.declared.statements.Function.{Function}
use Rattle.away_types.specs.CheckedFunctions.{IsChecked}
use Rattle.cert_json.specs.Forms.{Cert}
use Rattle.equivalence.specs.Accepted.{EquivalentWith}
use Rattle.equivalence.specs.declared.relation.Relation.{Relation}
use Rattle.equivalence.specs.declared.relation.Relation.TheVariants.{
  Lowered,
  Named,
  Called,
  Merged,
  Columned,
  Templated,
}
use Rattle.stage_check.specs.declared.verdict.Verdict.{Verdict}
use Rattle.stage_check.specs.declared.verdict.Verdict.TheVariants.{Accepted, Fails}
use Rattle.stage_check.specs.Verdicts.{Judges}
use Rattle.away_top.specs.declared.status.Status.{Status}
use Rattle.away_top.specs.declared.status.Status.TheVariants.{Done, NotAccepted}
use Rattle.away_top.specs.Certificates.{cert_course}
use Rattle.away_top.specs.Course.{Course, and_then, ends, Exactly}
use Rattle.away_top.specs.Files.{Asked, Callable, function_course, query_course, schema_course}
use Rattle.away_top.specs.Lines.{line}

-- the number of the stage that a relation belongs to
abbrev pub stage_number : Relation → ℕ
stage_number Lowered = 2
stage_number Named = 3
stage_number Called = 4
stage_number Merged = 5
stage_number Columned = 6
stage_number Templated = 7

abbrev pub verdict_status : Verdict → Status
verdict_status Accepted = Done
verdict_status (Fails r) = NotAccepted

abbrev pub verdict_line : Verdict → List ℕ
verdict_line Accepted = line (codes "accepted")
verdict_line (Fails r) = line (codes "not accepted S" ++ decimal (stage_number r))

-- the end of a run with this verdict
abbrev pub TellsVerdict : Verdict → Status → List ℕ → Type 0
TellsVerdict v = Exactly (verdict_status v) (verdict_line v)

-- what acceptance promises: the query is equivalent to the function, where that is checked under
-- the schema
abbrev pub Promises : Schema → Callable → Asked → Verdict → Type 0
Promises s f q Accepted = (written : Function) → IsChecked s written f.function f.slots → EquivalentWith s f.function f.slots q.query
Promises s f q (Fails r) = Unit {0}

-- the verdict on these forms, and what it promises
pub record IsVerdict (s : Schema) (f : Callable) (q : Asked) (c : Cert) (v : Verdict) : Type 0 where
  pub judges : Judges s f.function f.slots c q.query v
  pub promises : Promises s f q v

-- the end of a run with the verdict on these forms
abbrev pub IsJudgedSo : Schema → Callable → Asked → Cert → Status → List ℕ → Type 0
IsJudgedSo s f q c status output = (v : Verdict) × IsVerdict s f q c v × TellsVerdict v status output

abbrev pub with_query : Schema → Callable → Asked → List ℕ → Course ⊥
with_query s f q cert = and_then (cert_course cert) (λ c. ends (IsJudgedSo s f q c))

abbrev pub with_function : Schema → Callable → List ℕ → List ℕ → Course ⊥
with_function s f query cert = and_then (query_course s query) (λ q. with_query s f q cert)

abbrev pub with_schema : Schema → List ℕ → List ℕ → List ℕ → Course ⊥
with_schema s func query cert = and_then (function_course s func) (λ f. with_function s f query cert)

abbrev pub check_course : List ℕ → List ℕ → List ℕ → List ℕ → Course ⊥
check_course schema func query cert = and_then (schema_course schema) (λ s. with_schema s func query cert)
