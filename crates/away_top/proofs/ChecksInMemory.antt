-- Over objects in memory that are to meet no failure, nothing but want of memory or of room is in the way of `check`.
use Rattle.std.proofs.Common.{◌≡◌, ◌≤◌, ◌++◌, inl, inr, ap, sym, subst, ◌∙◌, ℕ, List, [], ◌∷◌, length, codes}
use Rattle.stage_check.specs.declared.verdict.Verdict.{Verdict}
use Rattle.away_top.specs.declared.status.Status.{Status}
use Rattle.away_top.specs.CheckCourse.{TellsVerdict, check_course, with_function, with_query, with_schema}
use Rattle.away_top.specs.Commands.{command_of, course, course_of}
use Rattle.away_top.specs.Course.{Outcome}
use Rattle.away_top.specs.Files.{asked_of, callable_of}
use Rattle.away_top.specs.InMemory.{EndsIn, HasVerdict, Judged, MayCheck}
use Rattle.away_top.specs.MemoryFiles.{HeldFiles, held_at}
use Rattle.away_top.specs.MemorySink.{RoomySink}
use Rattle.away_top.specs.Refusals.{IsFunction, IsQuery, IsSchema}
use Rattle.away_top.proofs.EndsInMemory.{leads_on}
use Rattle.away_top.proofs.Unrefused.{cert_unrefused, function_unrefused, query_unrefused, schema_unrefused}
use Rattle.away_top.proofs.Words.{asks_check}

module _ (m : HeldFiles) (schema func query cert tables function asked forms : List ℕ) (may : MayCheck m schema func query cert tables function asked forms) where
  -- ---- files that are fit lead to a verdict

  module _ (status : Status) (output : List ℕ) where
    -- the run tells the verdict on what the bytes read as
    abbrev Ends : Type 0
    Ends = (v : Verdict) × HasVerdict tables function asked forms v × TellsVerdict v status output

    cert_leads : (s : IsSchema tables) (f : IsFunction s.schema function) (q : IsQuery s.schema asked)
        → Outcome {A = ⊥} (held_at m.held) (with_query s.schema (callable_of s.schema f.written) (asked_of s.schema q.written) cert) status output → Ends
    cert_leads s f q o = elim (leads_on cert 67108864 _ (held_at m.held cert) forms status output may.holds_cert may.fit_cert.short o) [
      | inl (rule, refuses, e) ↦ absurd (cert_unrefused may.fit_cert.is rule refuses)
      | inr (c, end) ↦ (end.0, record { schema = s; called = f; query = q; certificate = c; verdict = end.1 }, end.2)
    ]

    query_leads : (s : IsSchema tables) (f : IsFunction s.schema function)
        → Outcome {A = ⊥} (held_at m.held) (with_function s.schema (callable_of s.schema f.written) query cert) status output → Ends
    query_leads s f o = elim (leads_on query 67108864 _ (held_at m.held query) asked status output may.holds_query may.fit_query.short o) [
      | inl (rule, refuses, e) ↦ absurd (query_unrefused may.fit_schema.is s may.fit_query.is rule refuses)
      | inr (q, rest) ↦ cert_leads s f q rest
    ]

    function_leads : (s : IsSchema tables) → Outcome {A = ⊥} (held_at m.held) (with_schema s.schema func query cert) status output → Ends
    function_leads s o = elim (leads_on func 1048576 _ (held_at m.held func) function status output may.holds_function may.fit_function.short o) [
      | inl (rule, refuses, e) ↦ absurd (function_unrefused may.fit_schema.is s may.fit_function.is rule refuses)
      | inr (f, rest) ↦ query_leads s f rest
    ]

    leads : Outcome {A = ⊥} (held_at m.held) (check_course schema func query cert) status output → Ends
    leads o = elim (leads_on schema 67108864 _ (held_at m.held schema) tables status output may.holds_schema may.fit_schema.short o) [
      | inl (rule, refuses, e) ↦ absurd (schema_unrefused may.fit_schema.is rule refuses)
      | inr (s, rest) ↦ function_leads s rest
    ]

  -- what the call leaves
  pub judged : (before after : RoomySink) (words : List (List ℕ)) (text : List ℕ) (result : Status) → words ≡ codes "check" ∷ schema ∷ func ∷ query ∷ cert ∷ []
      → EndsIn before after result (Outcome (held_at m.held) (course words text)) → Judged before after result tables function asked forms
  judged before after words text result is (inl wants) = inl wants
  judged before after words text result is (inr (status, output, o, told)) =
      let led = subst (λ c. Outcome (held_at m.held) (course_of c text) status output) (ap command_of is ∙ asks_check schema func query cert) o in
      let end = leads status output led in
      let tells = end.2 in
      inr (
        end.0,
        end.1,
        λ fits.
            let so = told (subst (λ o. length o ≤ before.room) (sym tells.1) fits) in
            record { status_is = so.status_is ∙ tells.0; bytes_are = so.bytes_are ∙ ap (λ o. before.bytes ++ o) tells.1 },
      )
