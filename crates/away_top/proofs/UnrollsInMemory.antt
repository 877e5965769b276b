-- Over objects in memory that are to meet no failure, nothing but want of memory or of room is in the way of `unroll`.
use Rattle.std.proofs.Common.{◌≡◌, ◌∙◌, inl, inr, ap, subst, ℕ, List, [], ◌∷◌, codes}
use Rattle.away_top.specs.declared.status.Status.{Status}
use Rattle.away_top.specs.Commands.{command_of, course, course_of}
use Rattle.away_top.specs.Course.{and_then, Outcome}
use Rattle.away_top.specs.InMemory.{EndsIn}
use Rattle.away_top.specs.MemoryFiles.{HeldFiles, held_at}
use Rattle.away_top.specs.MemorySink.{RoomySink}
use Rattle.away_top.specs.RunCourse.{spelled}
use Rattle.away_top.specs.UnrollCourse.{Unrolls, turns_of, unroll_course, with_turns}
use Rattle.away_top.specs.UnrollInMemory.{MayUnroll, UnrolledIn}
use Rattle.away_top.proofs.InMemory.{leads}
use Rattle.away_top.proofs.RunsInMemory.{some_of}
use Rattle.away_top.proofs.Unrollings.{ended_for}
use Rattle.away_top.proofs.Words.{asks_unroll}

module _ (m : HeldFiles) (turns schema func tables function : List ℕ) (may : MayUnroll m turns schema func tables function) where
  -- what the call leaves
  pub unrolled : (before after : RoomySink) (words : List (List ℕ)) (text : List ℕ) (result : Status) → words ≡ codes "unroll" ∷ turns ∷ schema ∷ func ∷ []
      → EndsIn before after result (Outcome (held_at m.held) (course words text)) → UnrolledIn before after result turns tables function
  unrolled before after words text result is (inl wants) = inl wants
  unrolled before after words text result is (inr (status, output, o, told)) =
      let most = some_of (turns_of turns) may.spells_turns in
      let asked : Outcome (held_at m.held) (unroll_course turns schema func text) status output =
      subst (λ c. Outcome (held_at m.held) (course_of c text) status output) (ap command_of is ∙ asks_unroll turns schema func) o in
      let led = leads (held_at m.held) schema func tables function (Unrolls most.0 text) may.fit_schema may.fit_function may.holds_schema may.holds_function status output
      (subst (λ o. Outcome {A = ⊥} (held_at m.held) (and_then (spelled o) (with_turns schema func text)) status output) most.1 asked) in
      let so = ended_for turns most.0 tables function text output status most.1 led in
      inr (
        output,
        so.1,
        λ fits.
            let tells = told fits in
            record { status_is = tells.status_is ∙ so.0; bytes_are = tells.bytes_are },
      )
