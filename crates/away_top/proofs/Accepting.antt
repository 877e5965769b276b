-- A run of `check` that is done has accepted its files.
use Rattle.std.proofs.Common.{◌≡◌, inl, inr, refl, sym, ◌∙◌, ap, subst, ℕ, List, codes}
use Rattle.std.specs.Io.KnownBytes.{Appends}
use Rattle.away_trees.specs.declared.schemas.Schema.{Schema}
use Rattle.cert_json.specs.Forms.{Cert}
use Rattle.equivalence.specs.Accepted.{AcceptedForms, EquivalentWith}
use Rattle.stage_check.specs.declared.verdict.Verdict.TheVariants.{Accepted, Fails}
use Rattle.away_top.specs.declared.host.Files.{Ghosts as Files}
use Rattle.away_top.specs.declared.host.Sink.{Ghosts as Sink}
use Rattle.away_top.specs.declared.status.Status.{Status}
use Rattle.away_top.specs.declared.status.Status.TheVariants.{Done, NoMemory, NotAccepted, WriteFault}
use Rattle.away_top.specs.Acceptance.{Accepts, IsAccepted}
use Rattle.away_top.specs.Answer.{Delivers}
use Rattle.away_top.specs.Certificates.{IsCert, RefusesCert, cert_course}
use Rattle.away_top.specs.CheckCourse.{IsJudgedSo, check_course, with_function, with_query, with_schema}
use Rattle.away_top.specs.Commands.{command_of, course, course_of}
use Rattle.away_top.specs.Course.{ends}
use Rattle.away_top.specs.Files.{Asked, Callable, asked_of, callable_of, function_course, query_course, schema_course}
use Rattle.away_top.specs.Lines.{line}
use Rattle.away_top.specs.RunAnswers.{AreBytesOf, Held, IsAnswer}
use Rattle.away_top.specs.Refusals.{IsFunction}
use Rattle.away_top.specs.Runs.{End, wants_memory, ended, goes_on, Follows}
use Rattle.away_top.proofs.Parts.{gone, keeps, silent_refusal}
use Rattle.away_top.proofs.Reading.{before, function_read, query_read, schema_read, silent_function, silent_query, silent_schema}
use Rattle.away_top.proofs.Words.{asks_check}

record CertRead (held : Held) (name : List ℕ) (c : Cert) : Type 0 where
  pub bytes : List ℕ
  pub are_its : AreBytesOf held name bytes
  pub certificate : IsCert bytes
  pub is : c ≡ certificate.cert

-- what a verdict of acceptance says
record Good (s : Schema) (f : Callable) (q : Asked) (c : Cert) (output : List ℕ) : Type 0 where
  pub holds : AcceptedForms s f.function f.slots c q.query
  pub equivalent : EquivalentWith s f.function f.slots q.query
  pub output_is : output ≡ line (codes "accepted")

good : (s : Schema) (func : List ℕ) (is : IsFunction s func) (q : Asked) (c : Cert) (status : Status) (output : List ℕ) → status ≡ Done → IsJudgedSo s (callable_of s is.written) q c status output
    → Good s (callable_of s is.written) q c output
good s func is q c status output done (Accepted, v, e) =
    record { holds = v.judges; equivalent = v.promises is.written (record { unbroken = is.unbroken; function = refl; slots_are = refl }); output_is = e.1 }
good s func is q c status output done (Fails r, v, e) = absurd (let wrong : NotAccepted ≡ Done = sym e.0 ∙ done in cc)

module _ {D : Type 0} (F : Files D) where
  cert_read : (now after : D) (name : List ℕ) (c : Cert) → Follows F now (cert_course name) after (goes_on c) → CertRead (F.held now) name c
  cert_read now after name c (inl h) = absurd h.how
  cert_read now after name c (inr (middle, read, inl h)) = absurd h.how
  cert_read now after name c (inr (middle, read, inr (bytes, holds, inl h))) = absurd h.how
  cert_read now after name c (inr (middle, read, inr (bytes, holds, inr (w, h)))) = record { bytes = bytes; are_its = holds.same; certificate = w; is = h.how }

  accepted : (old new : D) (schema func query cert : List ℕ) (status : Status) (output : List ℕ) → status ≡ Done
      → Follows F old (check_course schema func query cert) new (ended status output) → IsAccepted (F.held old) schema func query cert × (output ≡ line (codes "accepted"))
  accepted old new schema func query cert status output done h =
      let late = subst IsAnswer (sym done) tt in
      let s = gone F old new (schema_course schema) (λ s. with_schema s func query cert) (ended status output) late (silent_schema schema) h in
      let read = schema_read F old s.middle schema s.given s.first in
      let kept = keeps F old s.middle (schema_course schema) (goes_on s.given) s.first in
      let tables = read.tables.schema in
      let from_schema = subst (λ s'. Follows F s.middle (with_schema s' func query cert) new (ended status output)) read.is s.rest in
      let f = gone F s.middle new (function_course tables func) (λ f. with_function tables f query cert) (ended status output) late (silent_function tables func) from_schema in
      let judged = function_read F s.middle f.middle tables func f.given f.first in
      let kept_f = keeps F s.middle f.middle (function_course tables func) (goes_on f.given) f.first in
      let called = callable_of tables judged.called.written in
      let from_function = subst (λ f'. Follows F f.middle (with_function tables f' query cert) new (ended status output)) judged.is f.rest in
      let q = gone F f.middle new (query_course tables query) (λ q. with_query tables called q cert) (ended status output) late (silent_query tables query) from_function in
      let asked = query_read F f.middle q.middle tables query q.given q.first in
      let kept_q = keeps F f.middle q.middle (query_course tables query) (goes_on q.given) q.first in
      let question = asked_of tables asked.asked.written in
      let from_query = subst (λ q'. Follows F q.middle (with_query tables called q' cert) new (ended status output)) asked.is q.rest in
      let c = gone F q.middle new (cert_course cert) (λ c. ends (IsJudgedSo tables called question c)) (ended status output) late
      (λ bytes. (silent_refusal cert (RefusesCert bytes), λ w. tt)) from_query in
      let certified = cert_read q.middle c.middle cert c.given c.first in
      let end = subst (λ c'. IsJudgedSo tables called question c' status output) certified.is c.rest.how in
      let all = good tables judged.bytes judged.called question certified.certificate.cert status output done end in (
        record {
          schema_bytes = read.bytes;
          holds_schema = read.are_its;
          tables = read.tables;
          function_bytes = judged.bytes;
          holds_function = before (F.held old) (F.held s.middle) func judged.bytes kept judged.are_its;
          function = judged.called;
          query_bytes = asked.bytes;
          holds_query = before (F.held old) (F.held f.middle) query asked.bytes (λ name bytes e. kept_f name bytes (kept name bytes e)) asked.are_its;
          asked = asked.asked;
          cert_bytes = certified.bytes;
          holds_cert = before (F.held old) (F.held q.middle) cert certified.bytes (λ name bytes e. kept_q name bytes (kept_f name bytes (kept name bytes e))) certified.are_its;
          certificate = certified.certificate;
          accepted = all.holds;
          equivalent = all.equivalent;
        },
        all.output_is,
      )

module _ {D K : Type 0} (F : Files D) (S : Sink K) (old new : D) (before after : K) (result : Status) where
  pub accepts : (words : List (List ℕ)) (text : List ℕ) (end : End ⊥) → Follows F old (course words text) new end → Delivers S before after result end → result ≡ Done
      → Accepts (F.held old) (S.written before) (S.written after) words
  accepts words text wants_memory h d done = absurd (let wrong : NoMemory ≡ Done = sym d.status_is ∙ done in cc)
  accepts words text (goes_on never) h d done = absurd never
  accepts words text (ended status output) h (inr broken) done = absurd (let wrong : WriteFault ≡ Done = sym broken.status_is ∙ done in cc)
  accepts words text (ended status output) h (inl whole) done = λ schema func query cert is.
      let follows = subst (λ c. Follows F old (course_of c text) new (ended status output)) (ap command_of is ∙ asks_check schema func query cert) h in
      let found = accepted F old new schema func query cert status output (sym whole.status_is ∙ done) follows in
      (found.0, subst (λ o. Appends (S.written before) (S.written after) o) found.1 whole.written)
