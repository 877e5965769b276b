-- Over objects in memory that are to meet no failure, nothing but want of memory or of room is in the way of `untail`, and of what it reads.
use Rattle.std.proofs.Common.{◌≡◌, inl, inr, ap, subst, ◌∙◌, ℕ, List, [], ◌∷◌, codes}
use Rattle.tail_calls.specs.declared.refusals.Grown.{Grown}
use Rattle.tail_calls.specs.declared.refusals.WriteRefusal.TheVariants.{Limit}
use Rattle.tail_calls.specs.Untailed.{Refuses}
use Rattle.away_top.specs.declared.status.Status.{Status}
use Rattle.away_top.specs.declared.status.Status.TheVariants.{Done}
use Rattle.away_top.specs.Commands.{command_of, course, course_of}
use Rattle.away_top.specs.Course.{Outcome, and_then, ends}
use Rattle.away_top.specs.InMemory.{EndsIn, MayUntail, Untailed}
use Rattle.away_top.specs.MemoryFiles.{HeldFiles, held_at}
use Rattle.away_top.specs.MemorySink.{RoomySink}
use Rattle.away_top.specs.Refusals.{IsSchema}
use Rattle.away_top.specs.UntailCourse.{EndsWith, IsSelfCallerFile, IsUntailedFor, self_caller_course, untail_course}
use Rattle.away_top.proofs.EndsInMemory.{leads_on}
use Rattle.away_top.proofs.TailCalls.{EndsOver, untailed_for}
use Rattle.away_top.proofs.Unrefused.{same_schema, same_self_caller, schema_unrefused, self_caller_unrefused}
use Rattle.away_top.proofs.Words.{asks_untail}

module _ (m : HeldFiles) (schema func tables function : List ℕ) (may : MayUntail m schema func tables function) where
  caller_over : (s : IsSchema tables) → IsSelfCallerFile s.schema function
  caller_over s = subst (λ t. IsSelfCallerFile t function) (same_schema may.fit_schema.is s) may.is

  caller_leads : (s : IsSchema tables) (text : List ℕ) (status : Status) (output : List ℕ) → Outcome {A = ⊥} (held_at m.held) (and_then (self_caller_course s.schema func) (λ f. ends (EndsWith func s.schema f text))) status output
      → EndsOver func tables function text status output
  caller_leads s text status output o = elim (leads_on func 1048576 _ (held_at m.held func) function status output may.holds_function may.short o) [
    | inl (rule, refuses, e) ↦ absurd (self_caller_unrefused s.schema function (caller_over s) rule refuses)
    | inr (f, so) ↦ record { schema = s; caller = f; ends_so = so }
  ]

  -- files that are fit lead to the end of a run over them
  leads : (text : List ℕ) (status : Status) (output : List ℕ) → Outcome {A = ⊥} (held_at m.held) (untail_course schema func text) status output → EndsOver func tables function text status output
  leads text status output o = elim (leads_on schema 67108864 _ (held_at m.held schema) tables status output may.holds_schema may.fit_schema.short o) [
    | inl (rule, refuses, e) ↦ absurd (schema_unrefused may.fit_schema.is rule refuses)
    | inr (s, rest) ↦ caller_leads s text status output rest
  ]

  -- what it becomes exceeds no limit
  small_over : (s : IsSchema tables) (f : IsSelfCallerFile s.schema function) (which : Grown) (found : ℕ) → Refuses s.schema f.written (Limit which found) → ⊥
  small_over s f = same_self_caller may.fit_schema.is s (λ t g. (which : Grown) (found : ℕ) → Refuses t g (Limit which found) → ⊥) may.is f may.small

  done_so : (text output : List ℕ) (status : Status) (s : IsSchema tables) (f : IsSelfCallerFile s.schema function) → EndsWith func s.schema f.written text status output → (status ≡ Done) × IsUntailedFor tables function output
  done_so text output status s f (inl (u, e)) = (e.0, untailed_for s f text output e.1 u)
  done_so text output status s f (inr (rule, (which, (found, refuses, is)), e)) = absurd (small_over s f which found refuses)

  -- what the call leaves
  pub untailed : (before after : RoomySink) (words : List (List ℕ)) (text : List ℕ) (result : Status) → words ≡ codes "untail" ∷ schema ∷ func ∷ []
      → EndsIn before after result (Outcome (held_at m.held) (course words text)) → Untailed before after result tables function
  untailed before after words text result is (inl wants) = inl wants
  untailed before after words text result is (inr (status, output, o, told)) =
      let led = leads text status output (subst (λ c. Outcome (held_at m.held) (course_of c text) status output) (ap command_of is ∙ asks_untail schema func) o) in
      let so = done_so text output status led.schema led.caller led.ends_so in
      inr (
        output,
        so.1,
        λ fits.
            let tells = told fits in
            record { status_is = tells.status_is ∙ so.0; bytes_are = tells.bytes_are },
      )
