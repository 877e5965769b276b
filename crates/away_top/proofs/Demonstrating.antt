-- A run of `demo` reads no file, and tells of its case where it is done.
use Rattle.std.proofs.Common.{◌≡◌, ◌∙◌, inl, inr, refl, ap, subst, sym, ℕ, List}
use Rattle.std.specs.Prelude.{Option, Some, None}
use Rattle.away_top.specs.declared.host.Files.{Ghosts as Files}
use Rattle.away_top.specs.declared.host.Sink.{Ghosts as Sink}
use Rattle.away_top.specs.declared.status.Status.{Status}
use Rattle.away_top.specs.declared.status.Status.TheVariants.{Done, NoMemory, Usage, WriteFault}
use Rattle.away_top.specs.Answer.{Delivers}
use Rattle.away_top.specs.Arguments.{bound_of}
use Rattle.away_top.specs.Commands.{command_of, course, course_of}
use Rattle.away_top.specs.DemoCourse.{IsShown, ShowsCase, ShowsWord}
use Rattle.away_top.specs.Runs.{End, wants_memory, ended, goes_on, Follows}
use Rattle.away_top.proofs.Words.{asks_demo}

pub shown_word : (word text : List ℕ) (o : Option ℕ) → bound_of word ≡ o → (status : Status) (output : List ℕ) → status ≡ Done → ShowsWord o text status output → IsShown word output
shown_word word text None is status output done e = absurd (let wrong : Usage ≡ Done = sym e.0 ∙ done in cc)
shown_word word text (Some n) is status output done (summary, shows, e) = record { number = n; number_is = is; text = text; summary = summary; is = shows; output_is = e.1 }

module _ {D K : Type 0} (F : Files D) (S : Sink K) (old new : D) (before after : K) (result : Status) where
  pub case_shown : (words : List (List ℕ)) (text : List ℕ) (end : End ⊥) → Follows F old (course words text) new end → Delivers S before after result end → result ≡ Done
      → ShowsCase (S.written before) (S.written after) words
  case_shown words text wants_memory h d done = absurd (let wrong : NoMemory ≡ Done = sym d.status_is ∙ done in cc)
  case_shown words text (goes_on never) h d done = absurd never
  case_shown words text (ended status output) h (inr broken) done = absurd (let wrong : WriteFault ≡ Done = sym broken.status_is ∙ done in cc)
  case_shown words text (ended status output) h (inl whole) done = λ word is.
      let follows = subst (λ c. Follows F old (course_of c text) new (ended status output)) (ap command_of is ∙ asks_demo word) h in
      (output, shown_word word text (bound_of word) refl status output (sym whole.status_is ∙ done) follows.how, whole.written)
