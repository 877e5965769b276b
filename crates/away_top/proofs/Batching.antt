-- What a run of `batch` has written that is done.
use Rattle.std.proofs.Common.{◌≡◌, ◌∙◌, inl, inr, refl, ap, subst, sym, ℕ, List}
use Rattle.std.specs.Prelude.{Option, Some, None}
use Rattle.away_top.specs.declared.host.Files.{Ghosts as Files}
use Rattle.away_top.specs.declared.host.Sink.{Ghosts as Sink}
use Rattle.away_top.specs.declared.status.Status.{Status}
use Rattle.away_top.specs.declared.status.Status.TheVariants.{Done, NoMemory, Refused, WriteFault}
use Rattle.away_top.specs.Answer.{Delivers}
use Rattle.away_top.specs.BatchCourse.{EndsWith, IsBatchFor, IsBatchOf, WritesBatch, place_of}
use Rattle.away_top.specs.Commands.{command_of, course, course_of}
use Rattle.away_top.specs.Files.{callable_of}
use Rattle.away_top.specs.Refusals.{IsFunction, IsSchema}
use Rattle.away_top.specs.Runs.{End, wants_memory, ended, goes_on, Follows}
use Rattle.away_top.proofs.Headlines.{of_files}
use Rattle.away_top.proofs.Words.{asks_batch}

module _ {tables function : List ℕ} (table : List ℕ) (s : IsSchema tables) (f : IsFunction s.schema function) where
  pub batch_for : (place : ℕ) → place_of table s.schema.tables ≡ Some place → (text output : List ℕ) → output ≡ text → IsBatchOf s.schema (callable_of s.schema f.written) place text
      → IsBatchFor tables function table output
  batch_for place is text output output_is b = subst (IsBatchFor tables function table) (sym output_is) (record {
    tables = s;
    function = f;
    place = place;
    place_is = is;
    query = b.query;
    batch = b.batch;
    answers = b.answers f.written (record { unbroken = f.unbroken; function = refl; slots_are = refl });
  })

  done_for : (schema text output : List ℕ) (status : Status) (o : Option ℕ) → place_of table s.schema.tables ≡ o → status ≡ Done
      → EndsWith schema s.schema (callable_of s.schema f.written) o text status output → IsBatchFor tables function table output
  done_for schema text output status None is done e = absurd (let wrong : Refused ≡ Done = sym e.0 ∙ done in cc)
  done_for schema text output status (Some place) is done (inl (b, e)) = batch_for place is text output e.1 b
  done_for schema text output status (Some place) is done (inr (lacks, e)) = absurd (let wrong : Refused ≡ Done = sym e.0 ∙ done in cc)

module _ {D K : Type 0} (F : Files D) (S : Sink K) (old new : D) (before after : K) (result : Status) where
  pub batch_written : (words : List (List ℕ)) (text : List ℕ) (end : End ⊥) → Follows F old (course words text) new end → Delivers S before after result end → result ≡ Done
      → WritesBatch (F.held old) (S.written before) (S.written after) words
  batch_written words text wants_memory h d done = absurd (let wrong : NoMemory ≡ Done = sym d.status_is ∙ done in cc)
  batch_written words text (goes_on never) h d done = absurd never
  batch_written words text (ended status output) h (inr broken) done = absurd (let wrong : WriteFault ≡ Done = sym broken.status_is ∙ done in cc)
  batch_written words text (ended status output) h (inl whole) done = λ schema func table tables function is told_schema told_function.
      let now_done = sym whole.status_is ∙ done in
      let e = of_files F (λ s f. EndsWith schema s f (place_of table s.tables) text) old new schema func tables function output status now_done told_schema told_function
      (subst (λ c. Follows F old (course_of c text) new (ended status output)) (ap command_of is ∙ asks_batch schema func table) h) in
      (output, done_for table e.schema e.called schema text output status (place_of table e.schema.schema.tables) refl now_done e.ends_so, whole.written)
