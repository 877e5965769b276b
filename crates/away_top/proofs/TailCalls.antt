-- What a run of `untail` has written that is done.
use Rattle.std.proofs.Common.{◌≡◌, ◌∙◌, inl, inr, ap, subst, sym, ℕ, List, Some}
use Rattle.away_top.specs.declared.host.Files.{Ghosts as Files}
use Rattle.away_top.specs.declared.host.Sink.{Ghosts as Sink}
use Rattle.away_top.specs.declared.status.Status.{Status}
use Rattle.away_top.specs.declared.status.Status.TheVariants.{Done, NoMemory, Refused, WriteFault}
use Rattle.away_top.specs.Answer.{Delivers}
use Rattle.away_top.specs.Commands.{command_of, course, course_of}
use Rattle.away_top.specs.Refusals.{IsSchema}
use Rattle.away_top.specs.Runs.{End, wants_memory, ended, goes_on, Follows}
use Rattle.away_top.specs.UntailCourse.{EndsWith, IsSelfCallerFile, IsUntailedFor, IsUntailedOf, WritesUntailed, untail_course}
use Rattle.away_top.proofs.Headlines.{no_refusal, no_stop, same_bytes}
use Rattle.away_top.proofs.Words.{asks_untail}

-- what the bytes of two files read as, and how the run over them ends
pub record EndsOver (func tables function text : List ℕ) (status : Status) (output : List ℕ) : Type 0 where
  pub schema : IsSchema tables
  pub caller : IsSelfCallerFile schema.schema function
  pub ends_so : EndsWith func schema.schema caller.written text status output

module _ {D : Type 0} (F : Files D) where
  -- a run that is done has read and judged the bytes that are told
  of_files : (old new : D) (schema func tables function text output : List ℕ) (status : Status) → status ≡ Done → F.held old schema ≡ Some tables → F.held old func ≡ Some function
      → Follows F old (untail_course schema func text) new (ended status output) → EndsOver func tables function text status output
  of_files old new schema func tables function text output status done told_schema told_function (inl h) = absurd h.how
  of_files old new schema func tables function text output status done told_schema told_function (inr (middle, read, inl h)) = absurd (no_stop F old middle schema 67108864 status output done h.how)
  of_files old new schema func tables function text output status done told_schema told_function (inr (middle, read, inr (bytes, holds, inl h))) = absurd (no_refusal F schema _ status output done h.how)
  of_files old new schema func tables function text output status done told_schema told_function (inr (middle, read, inr (bytes, holds, inr (s, inl h)))) = absurd h.how
  of_files old new schema func tables function text output status done told_schema told_function (inr (middle, read, inr (bytes, holds, inr (s, inr (last, reread, inl h))))) = absurd (no_stop F middle last func 1048576 status output done h.how)
  of_files old new schema func tables function text output status done told_schema told_function (inr (middle, read, inr (bytes, holds, inr (s, inr (last, reread, inr (more, held, inl h)))))) = absurd (no_refusal F func _ status output done h.how)
  of_files old new schema func tables function text output status done told_schema told_function (inr (middle, read, inr (bytes, holds, inr (s, inr (last, reread, inr (more, held, inr (f, h))))))) =
      let schema_is = same_bytes F old schema 67108864 bytes tables told_schema holds in
      let function_is = same_bytes F middle func 1048576 more function (read.kept func function told_function) held in
      subst (λ b. EndsOver func b function text status output) schema_is (subst (λ b. EndsOver func bytes b text status output) function_is (record { schema = s; caller = f; ends_so = h.how }))

module _ {tables function : List ℕ} (s : IsSchema tables) (f : IsSelfCallerFile s.schema function) where
  pub untailed_for : (text output : List ℕ) → output ≡ text → IsUntailedOf s.schema f.written text → IsUntailedFor tables function output
  untailed_for text output is u = record { tables = s; function = f; untailed = subst (λ t. IsUntailedOf s.schema f.written t) (sym is) u }

  done_for : (func text output : List ℕ) (status : Status) → status ≡ Done → EndsWith func s.schema f.written text status output → IsUntailedFor tables function output
  done_for func text output status done (inl (u, e)) = untailed_for text output e.1 u
  done_for func text output status done (inr (rule, is, e)) = absurd (let wrong : Refused ≡ Done = sym e.0 ∙ done in cc)

module _ {D K : Type 0} (F : Files D) (S : Sink K) (old new : D) (before after : K) (result : Status) where
  pub untailed_written : (words : List (List ℕ)) (text : List ℕ) (end : End ⊥) → Follows F old (course words text) new end → Delivers S before after result end → result ≡ Done
      → WritesUntailed (F.held old) (S.written before) (S.written after) words
  untailed_written words text wants_memory h d done = absurd (let wrong : NoMemory ≡ Done = sym d.status_is ∙ done in cc)
  untailed_written words text (goes_on never) h d done = absurd never
  untailed_written words text (ended status output) h (inr broken) done = absurd (let wrong : WriteFault ≡ Done = sym broken.status_is ∙ done in cc)
  untailed_written words text (ended status output) h (inl whole) done = λ schema func tables function is told_schema told_function.
      let now_done = sym whole.status_is ∙ done in
      let e = of_files F old new schema func tables function text output status now_done told_schema told_function
      (subst (λ c. Follows F old (course_of c text) new (ended status output)) (ap command_of is ∙ asks_untail schema func) h) in
      (output, done_for e.schema e.caller func text output status now_done e.ends_so, whole.written)
