-- How a run of `format` goes, and what it has written where it is done.
use Rattle.std.proofs.Common.{◌≡◌, ◌∙◌, inl, inr, refl, ap, subst, sym, ℕ, List, Some}
use Rattle.std.specs.Prelude.{IsUtf8}
use Rattle.away_trees.specs.declared.statements.Function.{Function}
use Rattle.plsql_parse.specs.Refusals as functions
use Rattle.away_top.specs.declared.host.Files.{Ghosts as Files}
use Rattle.away_top.specs.declared.host.Sink.{Ghosts as Sink}
use Rattle.away_top.specs.declared.status.Status.{Status}
use Rattle.away_top.specs.declared.status.Status.TheVariants.{Done, NoMemory, WriteFault}
use Rattle.away_top.specs.Answer.{Delivers}
use Rattle.away_top.specs.Commands.{command_of, course, course_of}
use Rattle.away_top.specs.Course.{Course, RefusedBy, ends, judges}
use Rattle.away_top.specs.FormatCourse.{EndsOn, Formats, IsFormatted, IsReadable, Prints, WritesFunction, format_course}
use Rattle.away_top.specs.Refusals.{ReadsAsFunction, RefusesRead}
use Rattle.away_top.specs.Runs.{End, wants_memory, ended, goes_on, Follows, IsEnd}
use Rattle.away_top.proofs.Headlines.{no_stop, no_refusal, same_bytes}
use Rattle.away_top.proofs.Words.{asks_format}

-- ---- the run

-- bytes that are read are a text
is_text : (bytes : List ℕ) (f : Function) → ReadsAsFunction bytes f → IsUtf8 bytes
is_text bytes f h = h.may_be_read.1.1.1.text.utf8

-- what is printed of a function is printed of one that the bytes read as
pub printed_so : (func bytes : List ℕ) (f : Function) (end : End ⊥) → ReadsAsFunction bytes f → IsEnd (Prints f) end → IsEnd (EndsOn func bytes) end
printed_so func bytes f wants_memory reads h = tt
printed_so func bytes f (ended status output) reads (text_is, again, is) =
    inr (record { written = f; reads_as = reads }, (record { text_is = text_is; reads = again bytes (is_text bytes f reads) reads.reads }, is))
printed_so func bytes f (goes_on never) reads h = absurd never

-- how a file's bytes are judged, and what is written of them
abbrev pub course_of_bytes : List ℕ → List ℕ → Course ⊥
course_of_bytes func bytes = judges (RefusedBy func (RefusesRead (functions.Refuses bytes))) (IsReadable bytes) (λ f. ends (Formats f.written))

pub judged_so : {D : Type 0} (F : Files D) (now : D) (func bytes : List ℕ) (end : End ⊥) → IsEnd (EndsOn func bytes) end
    → Follows F now (course_of_bytes func bytes) now end
judged_so F now func bytes wants_memory h = inl (record { same = refl; how = tt })
judged_so F now func bytes (ended status output) (inl refused) = inl (record { same = refl; how = refused })
judged_so F now func bytes (ended status output) (inr (f, so)) = inr (f, record { same = refl; how = so })
judged_so F now func bytes (goes_on never) h = absurd never

-- ---- the whole run

module _ {D : Type 0} (F : Files D) where
  -- a run that is done has read the bytes that are told, and printed what they read as
  of_file : (old new : D) (func function output : List ℕ) (status : Status) → status ≡ Done → F.held old func ≡ Some function
      → Follows F old (format_course func) new (ended status output) → IsFormatted function output
  of_file old new func function output status done told (inl h) = absurd h.how
  of_file old new func function output status done told (inr (middle, read, inl h)) = absurd (no_stop F old middle func 1048576 status output done h.how)
  of_file old new func function output status done told (inr (middle, read, inr (bytes, holds, inl h))) = absurd (no_refusal F func _ status output done h.how)
  of_file old new func function output status done told (inr (middle, read, inr (bytes, holds, inr (f, h)))) =
      subst (λ b. IsFormatted b output) (same_bytes F old func 1048576 bytes function told holds) (record { function = f; printed = h.how.0 })

module _ {D K : Type 0} (F : Files D) (S : Sink K) (old new : D) (before after : K) (result : Status) where
  pub function_written : (words : List (List ℕ)) (text : List ℕ) (end : End ⊥) → Follows F old (course words text) new end
      → Delivers S before after result end → result ≡ Done → WritesFunction (F.held old) (S.written before) (S.written after) words
  function_written words text wants_memory h d done = absurd (let wrong : NoMemory ≡ Done = sym d.status_is ∙ done in cc)
  function_written words text (goes_on never) h d done = absurd never
  function_written words text (ended status output) h (inr broken) done = absurd (let wrong : WriteFault ≡ Done = sym broken.status_is ∙ done in cc)
  function_written words text (ended status output) h (inl whole) done = λ func function is told. (
    output,
    of_file F old new func function output status (sym whole.status_is ∙ done) told
        (subst (λ c. Follows F old (course_of c text) new (ended status output)) (ap command_of is ∙ asks_format func) h),
    whole.written,
  )
