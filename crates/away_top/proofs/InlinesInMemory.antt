-- Over objects in memory that are to meet no failure, nothing but want of memory or of room is in the way of `inline`, and of what it reads.
use Rattle.std.proofs.Common.{◌≡◌, inl, inr, ap, subst, ◌∙◌, ℕ, List, [], ◌∷◌, codes}
use Rattle.sql_text.proofs.OneTree.{one_text}
use Rattle.away_top.specs.declared.status.Status.{Status}
use Rattle.away_top.specs.declared.status.Status.TheVariants.{Done}
use Rattle.away_top.specs.Commands.{command_of, course, course_of}
use Rattle.away_top.specs.Course.{Outcome}
use Rattle.away_top.specs.Files.{callable_of}
use Rattle.away_top.specs.InMemory.{EndsIn, InlinedIn, MayInline}
use Rattle.away_top.specs.InlineCourse.{EndsWith, IsInlinedFor, IsReadableQuery, MayBeInlined, inline_course, with_query, with_schema}
use Rattle.away_top.specs.MemoryFiles.{HeldFiles, held_at}
use Rattle.away_top.specs.MemorySink.{RoomySink}
use Rattle.away_top.specs.Refusals.{IsFunction, IsSchema}
use Rattle.away_top.proofs.EndsInMemory.{leads_on}
use Rattle.away_top.proofs.Inlinings.{inlined_for}
use Rattle.away_top.proofs.InlineRefusals.{told_no_refusal}
use Rattle.away_top.proofs.Unrefused.{function_unrefused, query_read_unrefused, same_function, schema_unrefused}
use Rattle.away_top.proofs.Words.{asks_inline}

module _ (m : HeldFiles) (schema query func tables calling function : List ℕ) (may : MayInline m schema query func tables calling function) where
  -- the calls may be replaced in what the files read as, however that is read
  may_over : (s : IsSchema tables) (q : IsReadableQuery calling) (f : IsFunction s.schema function) → MayBeInlined s.schema q.written f.written
  may_over s q f =
      subst (λ asked. MayBeInlined s.schema asked f.written) (one_text may.is.reads_as.reads q.reads_as.reads)
      (same_function may.fit_schema.is s (λ t written. MayBeInlined t may.is.written written) may.fit_function.is f may.may)

  module _ (text : List ℕ) (status : Status) (output : List ℕ) where
    done_so : (s : IsSchema tables) (q : IsReadableQuery calling) (f : IsFunction s.schema function) → EndsWith query func s.schema q.written (callable_of s.schema f.written) text status output
        → (status ≡ Done) × IsInlinedFor tables calling function output
    done_so s q f (inl (x, e)) = (e.0, inlined_for s q f text output e.1 x)
    done_so s q f (inr (e, is, told)) = absurd (told_no_refusal s.schema q.written f.written (may_over s q f) query func e status output is told)

    -- files that are fit lead to the end of a run over them
    function_leads : (s : IsSchema tables) (q : IsReadableQuery calling) → Outcome {A = ⊥} (held_at m.held) (with_query query func text s.schema q.written) status output
        → (status ≡ Done) × IsInlinedFor tables calling function output
    function_leads s q o = elim (leads_on func 1048576 _ (held_at m.held func) function status output may.holds_function may.fit_function.short o) [
      | inl (rule, refuses, e) ↦ absurd (function_unrefused may.fit_schema.is s may.fit_function.is rule refuses)
      | inr (f, rest) ↦ done_so s q f rest
    ]

    query_leads : (s : IsSchema tables) → Outcome {A = ⊥} (held_at m.held) (with_schema query func text s.schema) status output → (status ≡ Done) × IsInlinedFor tables calling function output
    query_leads s o = elim (leads_on query 67108864 _ (held_at m.held query) calling status output may.holds_query may.short o) [
      | inl (rule, refuses, e) ↦ absurd (query_read_unrefused calling may.is rule refuses)
      | inr (q, rest) ↦ function_leads s q rest
    ]

    leads : Outcome {A = ⊥} (held_at m.held) (inline_course schema query func text) status output → (status ≡ Done) × IsInlinedFor tables calling function output
    leads o = elim (leads_on schema 67108864 _ (held_at m.held schema) tables status output may.holds_schema may.fit_schema.short o) [
      | inl (rule, refuses, e) ↦ absurd (schema_unrefused may.fit_schema.is rule refuses)
      | inr (s, rest) ↦ query_leads s rest
    ]

  -- what the call leaves
  pub inlined : (before after : RoomySink) (words : List (List ℕ)) (text : List ℕ) (result : Status) → words ≡ codes "inline" ∷ schema ∷ query ∷ func ∷ []
      → EndsIn before after result (Outcome (held_at m.held) (course words text)) → InlinedIn before after result tables calling function
  inlined before after words text result is (inl wants) = inl wants
  inlined before after words text result is (inr (status, output, o, told)) =
      let so = leads text status output (subst (λ c. Outcome (held_at m.held) (course_of c text) status output) (ap command_of is ∙ asks_inline schema query func) o) in
      inr (
        output,
        so.1,
        λ fits.
            let tells = told fits in
            record { status_is = tells.status_is ∙ so.0; bytes_are = tells.bytes_are },
      )
