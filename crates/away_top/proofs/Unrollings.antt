-- What a run of `unroll` has written that is done.
use Rattle.std.proofs.Common.{◌≡◌, ◌∙◌, inl, inr, refl, ap, subst, sym, ℕ, List}
use Rattle.std.specs.Prelude.{Option, Some, None}
use Rattle.away_top.specs.declared.host.Files.{Ghosts as Files}
use Rattle.away_top.specs.declared.host.Sink.{Ghosts as Sink}
use Rattle.away_top.specs.declared.status.Status.{Status}
use Rattle.away_top.specs.declared.status.Status.TheVariants.{Done, NoMemory, Usage, WriteFault}
use Rattle.away_top.specs.Answer.{Delivers}
use Rattle.away_top.specs.Commands.{command_of, course, course_of}
use Rattle.away_top.specs.Course.{and_then}
use Rattle.away_top.specs.Files.{callable_of}
use Rattle.away_top.specs.Refusals.{IsFunction, IsSchema}
use Rattle.away_top.specs.RunCourse.{spelled}
use Rattle.away_top.specs.Runs.{End, wants_memory, ended, goes_on, Follows}
use Rattle.away_top.specs.UnrollCourse.{IsUnrolledFor, IsUnrolledOf, Unrolls, WritesUnrolled, turns_of, unroll_course, with_turns}
use Rattle.away_top.proofs.Headlines.{EndsOver, of_files}
use Rattle.away_top.proofs.Words.{asks_unroll}

pub unrolled_for : {tables function : List ℕ} (turns : List ℕ) (most : ℕ) (s : IsSchema tables) (f : IsFunction s.schema function) → turns_of turns ≡ Some most
    → (text output : List ℕ) → output ≡ text → IsUnrolledOf s.schema (callable_of s.schema f.written) most text → IsUnrolledFor turns tables function output
unrolled_for {tables = tables} {function = function} turns most s f is text output output_is u = subst (IsUnrolledFor turns tables function) (sym output_is) (record {
  most = most;
  most_is = is;
  tables = s;
  function = f;
  query = u.query;
  unrolled = u.unrolled;
  equivalent = u.equivalent f.written (record { unbroken = f.unbroken; function = refl; slots_are = refl });
})

-- the end of a run over files that are told
pub ended_for : (turns : List ℕ) (most : ℕ) (tables function text output : List ℕ) (status : Status) → turns_of turns ≡ Some most → EndsOver tables function (Unrolls most text) status output
    → (status ≡ Done) × IsUnrolledFor turns tables function output
ended_for turns most tables function text output status is e = (e.ends_so.1.0, unrolled_for turns most e.schema e.called is text output e.ends_so.1.1 e.ends_so.0)

module _ {D : Type 0} (F : Files D) where
  -- a run that is done has a number of turns
  spelled_done : (turns schema func text tables function output : List ℕ) (old new : D) (status : Status) (o : Option ℕ) → turns_of turns ≡ o → status ≡ Done
      → F.held old schema ≡ Some tables → F.held old func ≡ Some function → Follows F old (and_then (spelled o) (with_turns schema func text)) new (ended status output)
      → IsUnrolledFor turns tables function output
  spelled_done turns schema func text tables function output old new status None is done told_schema told_function h = absurd (let wrong : Usage ≡ Done = sym h.how.0 ∙ done in cc)
  spelled_done turns schema func text tables function output old new status (Some most) is done told_schema told_function h =
      (ended_for turns most tables function text output status is (of_files F (Unrolls most text) old new schema func tables function output status done told_schema told_function h)).1

module _ {D K : Type 0} (F : Files D) (S : Sink K) (old new : D) (before after : K) (result : Status) where
  pub unrolling_written : (words : List (List ℕ)) (text : List ℕ) (end : End ⊥) → Follows F old (course words text) new end → Delivers S before after result end → result ≡ Done
      → WritesUnrolled (F.held old) (S.written before) (S.written after) words
  unrolling_written words text wants_memory h d done = absurd (let wrong : NoMemory ≡ Done = sym d.status_is ∙ done in cc)
  unrolling_written words text (goes_on never) h d done = absurd never
  unrolling_written words text (ended status output) h (inr broken) done = absurd (let wrong : WriteFault ≡ Done = sym broken.status_is ∙ done in cc)
  unrolling_written words text (ended status output) h (inl whole) done = λ turns schema func tables function is told_schema told_function.
      let asked : Follows F old (unroll_course turns schema func text) new (ended status output) =
      subst (λ c. Follows F old (course_of c text) new (ended status output)) (ap command_of is ∙ asks_unroll turns schema func) h in
      (output, spelled_done F turns schema func text tables function output old new status (turns_of turns) refl (sym whole.status_is ∙ done) told_schema told_function asked, whole.written)
