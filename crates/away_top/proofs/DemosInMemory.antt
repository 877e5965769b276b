-- Over a sink in memory that is to meet no failure, nothing but want of memory or of room is in the way of `demo`.
use Rattle.std.proofs.Common.{◌≡◌, inl, inr, ap, subst, sym, ◌∙◌, ℕ, List, [], ◌∷◌, IsSome, refl, codes}
use Rattle.std.specs.Prelude.{Option, Some, None}
use Rattle.away_top.specs.declared.status.Status.{Status}
use Rattle.away_top.specs.declared.status.Status.TheVariants.{Done}
use Rattle.away_top.specs.Arguments.{bound_of}
use Rattle.away_top.specs.Commands.{command_of, course, course_of}
use Rattle.away_top.specs.Course.{EachRead, Outcome}
use Rattle.away_top.specs.DemoCourse.{ShowsWord}
use Rattle.away_top.specs.InMemory.{EndsIn, Shown}
use Rattle.away_top.specs.MemoryFiles.{HeldFiles, held_at}
use Rattle.away_top.specs.MemorySink.{RoomySink}
use Rattle.away_top.proofs.Demonstrating.{shown_word}
use Rattle.away_top.proofs.EndsInMemory.{Sure}
use Rattle.away_top.proofs.Words.{asks_demo}

-- no file is read
pub all_sure : (m : HeldFiles) (words : List (List ℕ)) (text word : List ℕ) → words ≡ codes "demo" ∷ word ∷ [] → EachRead (Sure m) (held_at m.held) (course words text)
all_sure m words text word is = subst (λ c. EachRead (Sure m) (held_at m.held) (course_of c text)) (sym (ap command_of is ∙ asks_demo word)) tt

is_done : (o : Option ℕ) (text : List ℕ) (status : Status) (output : List ℕ) → IsSome o → ShowsWord o text status output → status ≡ Done
is_done None text status output some e = absurd (cc)
is_done (Some n) text status output some (summary, is, e) = e.0

-- what the call leaves
pub shown : (m : HeldFiles) (before after : RoomySink) (words : List (List ℕ)) (text word : List ℕ) (result : Status) → words ≡ codes "demo" ∷ word ∷ [] → IsSome (bound_of word)
    → EndsIn before after result (Outcome (held_at m.held) (course words text)) → Shown before after result word
shown m before after words text word result is spells (inl wants) = inl wants
shown m before after words text word result is spells (inr (status, output, o, told)) =
    let shows = subst (λ c. Outcome (held_at m.held) (course_of c text) status output) (ap command_of is ∙ asks_demo word) o in
    let done = is_done (bound_of word) text status output spells shows in
    inr (
      output,
      shown_word word text (bound_of word) refl status output done shows,
      λ fits.
          let so = told fits in
          record { status_is = so.status_is ∙ done; bytes_are = so.bytes_are },
    )
