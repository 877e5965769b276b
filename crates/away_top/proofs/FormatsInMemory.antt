-- Over objects in memory that are to meet no failure, nothing but want of memory or of room is in the way of `format`, and of what it reads.
use Rattle.std.proofs.Common.{◌≡◌, inl, inr, ap, subst, ◌∙◌, ℕ, List, [], ◌∷◌, codes}
use Rattle.away_top.specs.declared.status.Status.{Status}
use Rattle.away_top.specs.declared.status.Status.TheVariants.{Done}
use Rattle.away_top.specs.Commands.{command_of, course, course_of}
use Rattle.away_top.specs.Course.{Outcome}
use Rattle.away_top.specs.FormatCourse.{IsFormatted, format_course}
use Rattle.away_top.specs.InMemory.{EndsIn, Formatted, MayFormat}
use Rattle.away_top.specs.MemoryFiles.{HeldFiles, held_at}
use Rattle.away_top.specs.MemorySink.{RoomySink}
use Rattle.away_top.proofs.EndsInMemory.{leads_on}
use Rattle.away_top.proofs.Unrefused.{read_unrefused}
use Rattle.away_top.proofs.Words.{asks_format}

module _ (m : HeldFiles) (func function : List ℕ) (may : MayFormat m func function) where
  -- a file that reads as a function leads to its text
  leads : (status : Status) (output : List ℕ) → Outcome {A = ⊥} (held_at m.held) (format_course func) status output
      → (status ≡ Done) × IsFormatted function output
  leads status output o = elim (leads_on func 1048576 _ (held_at m.held func) function status output may.holds_function may.short o) [
    | inl (rule, refuses, e) ↦ absurd (read_unrefused function may.written may.reads_as rule refuses)
    | inr (f, (printed, is)) ↦ (is, record { function = f; printed = printed })
  ]

  -- what the call leaves
  pub formatted : (before after : RoomySink) (words : List (List ℕ)) (text : List ℕ) (result : Status) → words ≡ codes "format" ∷ func ∷ []
      → EndsIn before after result (Outcome (held_at m.held) (course words text)) → Formatted before after result function
  formatted before after words text result is (inl wants) = inl wants
  formatted before after words text result is (inr (status, output, o, told)) =
      let so = leads status output (subst (λ c. Outcome (held_at m.held) (course_of c text) status output) (ap command_of is ∙ asks_format func) o) in
      inr (
        output,
        so.1,
        λ fits.
            let tells = told fits in
            record { status_is = tells.status_is ∙ so.0; bytes_are = tells.bytes_are },
      )
