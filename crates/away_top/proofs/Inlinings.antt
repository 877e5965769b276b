-- What a run of `inline` has written that is done.
use Rattle.std.proofs.Common.{◌≡◌, ◌∙◌, refl, inl, inr, ap, subst, sym, ℕ, List}
use Rattle.std.specs.Prelude.{Some}
use Rattle.away_top.specs.declared.host.Files.{Ghosts as Files}
use Rattle.away_top.specs.declared.host.Sink.{Ghosts as Sink}
use Rattle.away_top.specs.declared.status.Status.{Status}
use Rattle.away_top.specs.declared.status.Status.TheVariants.{Done, NoMemory, Refused, WriteFault}
use Rattle.away_top.specs.Answer.{Delivers}
use Rattle.away_top.specs.Commands.{command_of, course, course_of}
use Rattle.away_top.specs.Files.{callable_of}
use Rattle.away_top.specs.InlineCourse.{EndsWith, IsInlinedFor, IsInlinedOf, IsReadableQuery, WritesInlined, inline_course}
use Rattle.away_top.specs.Refusals.{IsFunction, IsSchema}
use Rattle.away_top.specs.Runs.{End, wants_memory, ended, goes_on, Follows}
use Rattle.away_top.proofs.Headlines.{no_refusal, no_stop, same_bytes}
use Rattle.away_top.proofs.InlineRefusals.{told_refused}
use Rattle.away_top.proofs.Words.{asks_inline}

-- what the bytes of the files read as, and how the run over them ends
pub record EndsOver (query func tables calling function text : List ℕ) (status : Status) (output : List ℕ) : Type 0 where
  pub schema : IsSchema tables
  pub asked : IsReadableQuery calling
  pub called : IsFunction schema.schema function
  pub ends_so : EndsWith query func schema.schema asked.written (callable_of schema.schema called.written) text status output

module _ {tables calling function : List ℕ} (s : IsSchema tables) (q : IsReadableQuery calling) (f : IsFunction s.schema function) where
  pub inlined_for : (text output : List ℕ) → output ≡ text → IsInlinedOf s.schema q.written (callable_of s.schema f.written) text → IsInlinedFor tables calling function output
  inlined_for text output is x = subst (IsInlinedFor tables calling function) (sym is) (record {
    tables = s;
    calling = q;
    function = f;
    inlined = x;
    answers = x.answers f.written (record { unbroken = f.unbroken; function = refl; slots_are = refl });
  })

  done_for : (query func text output : List ℕ) (status : Status) → status ≡ Done → EndsWith query func s.schema q.written (callable_of s.schema f.written) text status output
      → IsInlinedFor tables calling function output
  done_for query func text output status done (inl (x, e)) = inlined_for text output e.1 x
  done_for query func text output status done (inr (e, is, told)) = absurd (let wrong : Refused ≡ Done = sym (told_refused query func e status output told) ∙ done in cc)

-- ---- the whole run

module _ {D : Type 0} (F : Files D) (query func text output : List ℕ) (status : Status) (done : status ≡ Done) where
  -- the same of other names of the bytes
  over : (bytes tables others calling more function : List ℕ) → bytes ≡ tables → others ≡ calling → more ≡ function → EndsOver query func bytes others more text status output
      → EndsOver query func tables calling function text status output
  over bytes tables others calling more function first second third e =
      subst (λ b. EndsOver query func b calling function text status output) first
      (subst (λ b. EndsOver query func bytes b function text status output) second
      (subst (λ b. EndsOver query func bytes others b text status output) third e))

  -- a run that is done has read and judged the bytes that are told
  of_files : (old new : D) (schema tables calling function : List ℕ) → F.held old schema ≡ Some tables → F.held old query ≡ Some calling → F.held old func ≡ Some function
      → Follows F old (inline_course schema query func text) new (ended status output) → EndsOver query func tables calling function text status output
  of_files old new schema tables calling function one two three (inl h) = absurd h.how
  of_files old new schema tables calling function one two three (inr (middle, read, inl h)) = absurd (no_stop F old middle schema 67108864 status output done h.how)
  of_files old new schema tables calling function one two three (inr (middle, read, inr (bytes, holds, inl h))) = absurd (no_refusal F schema _ status output done h.how)
  of_files old new schema tables calling function one two three (inr (middle, read, inr (bytes, holds, inr (s, inl h)))) = absurd h.how
  of_files old new schema tables calling function one two three (inr (middle, read, inr (bytes, holds, inr (s, inr (later, reread, inl h))))) = absurd (no_stop F middle later query 67108864 status output done h.how)
  of_files old new schema tables calling function one two three (inr (middle, read, inr (bytes, holds, inr (s, inr (later, reread, inr (others, held, inl h)))))) = absurd (no_refusal F query _ status output done h.how)
  of_files old new schema tables calling function one two three (inr (middle, read, inr (bytes, holds, inr (s, inr (later, reread, inr (others, held, inr (q, inl h))))))) = absurd h.how
  of_files old new schema tables calling function one two three (inr (middle, read, inr (bytes, holds, inr (s, inr (later, reread, inr (others, held, inr (q, inr (last, again, inl h)))))))) =
      absurd (no_stop F later last func 1048576 status output done h.how)
  of_files old new schema tables calling function one two three (inr (middle, read, inr (bytes, holds, inr (s, inr (later, reread, inr (others, held, inr (q, inr (last, again, inr (more, keeps, inl h))))))))) =
      absurd (no_refusal F func _ status output done h.how)
  of_files old new schema tables calling function one two three (inr (middle, read, inr (bytes, holds, inr (s, inr (later, reread, inr (others, held, inr (q, inr (last, again, inr (more, keeps, inr (f, h)))))))))) =
      over bytes tables others calling more function (same_bytes F old schema 67108864 bytes tables one holds) (same_bytes F middle query 67108864 others calling (read.kept query calling two) held)
      (same_bytes F later func 1048576 more function (reread.kept func function (read.kept func function three)) keeps) (record { schema = s; asked = q; called = f; ends_so = h.how })

module _ {D K : Type 0} (F : Files D) (S : Sink K) (old new : D) (before after : K) (result : Status) where
  pub inlining_written : (words : List (List ℕ)) (text : List ℕ) (end : End ⊥) → Follows F old (course words text) new end → Delivers S before after result end → result ≡ Done
      → WritesInlined (F.held old) (S.written before) (S.written after) words
  inlining_written words text wants_memory h d done = absurd (let wrong : NoMemory ≡ Done = sym d.status_is ∙ done in cc)
  inlining_written words text (goes_on never) h d done = absurd never
  inlining_written words text (ended status output) h (inr broken) done = absurd (let wrong : WriteFault ≡ Done = sym broken.status_is ∙ done in cc)
  inlining_written words text (ended status output) h (inl whole) done = λ schema query func tables calling function is one two three.
      let now_done = sym whole.status_is ∙ done in
      let e = of_files F query func text output status now_done old new schema tables calling function one two three
      (subst (λ c. Follows F old (course_of c text) new (ended status output)) (ap command_of is ∙ asks_inline schema query func) h) in
      (output, done_for e.schema e.asked e.called query func text output status now_done e.ends_so, whole.written)
