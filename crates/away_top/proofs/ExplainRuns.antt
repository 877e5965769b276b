-- What a run of `explain` has written that is done or has refused a file.
use Rattle.std.proofs.Common.{◌≡◌, ◌∙◌, inl, inr, ap, subst, sym, ℕ, ◌<◌, ◌≤◌, IfSome, List, Some, length, arith}
use Rattle.query_places.specs.QueryPlaces.{BeginsQuery}
use Rattle.away_top.specs.declared.host.Files.{Ghosts as Files}
use Rattle.away_top.specs.declared.host.Sink.{Ghosts as Sink}
use Rattle.away_top.specs.declared.status.Status.{Status}
use Rattle.away_top.specs.declared.status.Status.TheVariants.{Done, NoMemory, ReadFault, Refused, WriteFault}
use Rattle.away_top.specs.Answer.{Delivers}
use Rattle.away_top.specs.Commands.{command_of, course, course_of}
use Rattle.away_top.specs.ExplainCourse.{EndsOn, IsCounted, TellsCounts, WritesCounts, WritesReason}
use Rattle.away_top.specs.Explanations.{Explains}
use Rattle.away_top.specs.QueryExplainCourse.{EndsOnFile, EndsOnQuery, IsQueryCounted, WritesQueryCounts, WritesQueryReason, explain_course}
use Rattle.away_top.specs.QueryExplanations.{ExplainsQuery}
use Rattle.away_top.specs.Refusals.{IsFunction, IsSchema, RefusesSchema}
use Rattle.away_top.specs.Runs.{End, wants_memory, ended, goes_on, Follows, IsLong, StopsAt}
use Rattle.away_top.proofs.Headlines.{no_refusal, no_stop, same_bytes}
use Rattle.away_top.proofs.Unrefused.{same_schema, schema_unrefused}
use Rattle.away_top.proofs.Words.{asks_explain}

-- what the bytes of two files read as, and how the run over them ends
pub record EndsOver (func tables function text : List ℕ) (status : Status) (output : List ℕ) : Type 0 where
  pub schema : IsSchema tables
  pub ends_so : EndsOnFile func schema.schema function text status output

module _ {D : Type 0} (F : Files D) where
  -- a run that is done has read and judged the bytes that are told
  of_files : (old new : D) (schema func tables function text output : List ℕ) (status : Status) → status ≡ Done → F.held old schema ≡ Some tables → F.held old func ≡ Some function
      → Follows F old (explain_course schema func text) new (ended status output) → EndsOver func tables function text status output
  of_files old new schema func tables function text output status done told_schema told_function (inl h) = absurd h.how
  of_files old new schema func tables function text output status done told_schema told_function (inr (middle, read, inl h)) = absurd (no_stop F old middle schema 67108864 status output done h.how)
  of_files old new schema func tables function text output status done told_schema told_function (inr (middle, read, inr (bytes, holds, inl h))) = absurd (no_refusal F schema _ status output done h.how)
  of_files old new schema func tables function text output status done told_schema told_function (inr (middle, read, inr (bytes, holds, inr (s, inl h)))) = absurd h.how
  of_files old new schema func tables function text output status done told_schema told_function (inr (middle, read, inr (bytes, holds, inr (s, inr (last, reread, inl h))))) = absurd (no_stop F middle last func 67108864 status output done h.how)
  of_files old new schema func tables function text output status done told_schema told_function (inr (middle, read, inr (bytes, holds, inr (s, inr (last, reread, inr (more, held, h)))))) =
      let schema_is = same_bytes F old schema 67108864 bytes tables told_schema holds in
      let function_is = same_bytes F middle func 67108864 more function (read.kept func function told_function) held in
      subst (λ b. EndsOver func b function text status output) schema_is (subst (λ b. EndsOver func bytes b text status output) function_is (record { schema = s; ends_so = h.how }))

  -- a file of few bytes that are told isn't too long
  not_long : (old : D) (name : List ℕ) (limit : ℕ) (known : List ℕ) → F.held old name ≡ Some known → length known ≤ limit → IsLong F old name limit → ⊥
  not_long old name limit known told few long = let more = subst (λ o. IfSome o (λ held. limit < length held)) told long.more in omega arith

  no_fault : (before after : D) (name : List ℕ) (limit : ℕ) (known : List ℕ) (status : Status) (output : List ℕ) → status ≡ Refused → F.held before name ≡ Some known → length known ≤ limit
      → StopsAt F before name limit after status output → ⊥
  no_fault before after name limit known status output refused told few (inl (u, e)) = let wrong : ReadFault ≡ Refused = sym e.0 ∙ refused in cc
  no_fault before after name limit known status output refused told few (inr (long, e)) = not_long before name limit known told few long

  -- a run that has refused a file has refused the second one, where the schema's is one
  of_refused : (old new : D) (schema func tables function text output : List ℕ) (status : Status) → status ≡ Refused → (t : IsSchema tables) → F.held old schema ≡ Some tables → length tables ≤ 67108864
      → F.held old func ≡ Some function → length function ≤ 67108864 → Follows F old (explain_course schema func text) new (ended status output) → EndsOnFile func t.schema function text status output
  of_refused old new schema func tables function text output status refused t told_schema few told_function short (inl h) = absurd h.how
  of_refused old new schema func tables function text output status refused t told_schema few told_function short (inr (middle, read, inl h)) =
      absurd (no_fault old middle schema 67108864 tables status output refused told_schema few h.how)
  of_refused old new schema func tables function text output status refused t told_schema few told_function short (inr (middle, read, inr (bytes, holds, inl h))) =
      let schema_is = same_bytes F old schema 67108864 bytes tables told_schema holds in
      absurd (subst (λ b. ¬ (RefusesSchema b h.how.0)) (sym schema_is) (schema_unrefused t h.how.0) h.how.1)
  of_refused old new schema func tables function text output status refused t told_schema few told_function short (inr (middle, read, inr (bytes, holds, inr (s, inl h)))) = absurd h.how
  of_refused old new schema func tables function text output status refused t told_schema few told_function short (inr (middle, read, inr (bytes, holds, inr (s, inr (last, reread, inl h))))) =
      absurd (no_fault middle last func 67108864 function status output refused (read.kept func function told_function) short h.how)
  of_refused old new schema func tables function text output status refused t told_schema few told_function short (inr (middle, read, inr (bytes, holds, inr (s, inr (last, reread, inr (more, held, h)))))) =
      let schema_is = same_bytes F old schema 67108864 bytes tables told_schema holds in
      let function_is = same_bytes F middle func 67108864 more function (read.kept func function told_function) held in
      let over : (b : List ℕ) → b ≡ tables → (k : IsSchema b) → EndsOnFile func k.schema more text status output → EndsOnFile func t.schema more text status output =
      λ b is k so. subst (λ x. EndsOnFile func x more text status output) (subst (λ z. (u : IsSchema z) → u.schema ≡ t.schema) (sym is) (λ u. same_schema u t) k) so in
      subst (λ b. EndsOnFile func t.schema b text status output) function_is (over bytes schema_is s h.how)

-- ---- by what the file begins

not_done : (status : Status) → status ≡ Refused → status ≡ Done → ⊥
not_done status refused done = let wrong : Refused ≡ Done = sym refused ∙ done in cc

module _ {tables function : List ℕ} (s : IsSchema tables) where
  counted_for : (f : IsFunction s.schema function) (text output : List ℕ) (status : Status) → TellsCounts s.schema f.written text status output → IsCounted tables function output
  counted_for f text output status (forms, compiled, (faults, are, e)) = record { tables = s; function = f; text = text; forms = forms; compiled = compiled; faults = faults; are_faults = are; output_is = e.1 }

  done_for : (func text output : List ℕ) (status : Status) → status ≡ Done → EndsOn func s.schema function text status output → IsCounted tables function output
  done_for func text output status done (inl refused) = absurd (not_done status refused.1 done)
  done_for func text output status done (inr (f, so)) = counted_for f text output status so

  done_at : (func text output : List ℕ) (status : Status) → status ≡ Done → ¬ (BeginsQuery function) → EndsOnFile func s.schema function text status output → IsCounted tables function output
  done_at func text output status done unlike (inl (begins, so)) = absurd (unlike begins)
  done_at func text output status done unlike (inr (other, inl (long, e))) = absurd (not_done status e.0 done)
  done_at func text output status done unlike (inr (other, inr (fits, so))) = done_for func text output status done so

  query_done : (func output : List ℕ) (status : Status) → status ≡ Done → EndsOnQuery func s.schema function status output → IsQueryCounted tables function output
  query_done func output status done (inl refused) = absurd (not_done status refused.1 done)
  query_done func output status done (inr (q, e)) = record { tables = s; asked = q; output_is = e.1 }

  query_done_at : (func text output : List ℕ) (status : Status) → status ≡ Done → BeginsQuery function → EndsOnFile func s.schema function text status output → IsQueryCounted tables function output
  query_done_at func text output status done begins (inl (same, so)) = query_done func output status done so
  query_done_at func text output status done begins (inr (unlike, so)) = absurd (unlike begins)

  refused_for : (func text output : List ℕ) (status : Status) → status ≡ Refused → EndsOn func s.schema function text status output → Explains func s.schema function output
  refused_for func text output status refused (inl so) = so.0
  refused_for func text output status refused (inr (f, h)) = absurd (not_done status refused h.2.2.0)

  refused_at : (func text output : List ℕ) (status : Status) → status ≡ Refused → length function ≤ 1048576 → ¬ (BeginsQuery function) → EndsOnFile func s.schema function text status output
      → Explains func s.schema function output
  refused_at func text output status refused short unlike (inl (begins, so)) = absurd (unlike begins)
  refused_at func text output status refused short unlike (inr (other, inl (long, e))) = absurd (omega arith)
  refused_at func text output status refused short unlike (inr (other, inr (fits, so))) = refused_for func text output status refused so

  query_refused : (func output : List ℕ) (status : Status) → status ≡ Refused → EndsOnQuery func s.schema function status output → ExplainsQuery func s.schema function output
  query_refused func output status refused (inl so) = so.0
  query_refused func output status refused (inr (q, e)) = absurd (not_done status refused e.0)

  query_refused_at : (func text output : List ℕ) (status : Status) → status ≡ Refused → BeginsQuery function → EndsOnFile func s.schema function text status output
      → ExplainsQuery func s.schema function output
  query_refused_at func text output status refused begins (inl (same, so)) = query_refused func output status refused so
  query_refused_at func text output status refused begins (inr (unlike, so)) = absurd (unlike begins)

-- ---- what was written

module _ {D K : Type 0} (F : Files D) (S : Sink K) (old new : D) (before after : K) (result : Status) where
  pub counts_written : (words : List (List ℕ)) (text : List ℕ) (end : End ⊥) → Follows F old (course words text) new end → Delivers S before after result end → result ≡ Done
      → WritesCounts (F.held old) (S.written before) (S.written after) words
  counts_written words text wants_memory h d done = absurd (let wrong : NoMemory ≡ Done = sym d.status_is ∙ done in cc)
  counts_written words text (goes_on never) h d done = absurd never
  counts_written words text (ended status output) h (inr broken) done = absurd (let wrong : WriteFault ≡ Done = sym broken.status_is ∙ done in cc)
  counts_written words text (ended status output) h (inl whole) done = λ schema func tables function is told_schema told_function unlike.
      let now_done = sym whole.status_is ∙ done in
      let e = of_files F old new schema func tables function text output status now_done told_schema told_function
      (subst (λ c. Follows F old (course_of c text) new (ended status output)) (ap command_of is ∙ asks_explain schema func) h) in
      (output, done_at e.schema func text output status now_done unlike e.ends_so, whole.written)

  pub query_counts_written : (words : List (List ℕ)) (text : List ℕ) (end : End ⊥) → Follows F old (course words text) new end → Delivers S before after result end → result ≡ Done
      → WritesQueryCounts (F.held old) (S.written before) (S.written after) words
  query_counts_written words text wants_memory h d done = absurd (let wrong : NoMemory ≡ Done = sym d.status_is ∙ done in cc)
  query_counts_written words text (goes_on never) h d done = absurd never
  query_counts_written words text (ended status output) h (inr broken) done = absurd (let wrong : WriteFault ≡ Done = sym broken.status_is ∙ done in cc)
  query_counts_written words text (ended status output) h (inl whole) done = λ schema func tables function is told_schema told_function begins.
      let now_done = sym whole.status_is ∙ done in
      let e = of_files F old new schema func tables function text output status now_done told_schema told_function
      (subst (λ c. Follows F old (course_of c text) new (ended status output)) (ap command_of is ∙ asks_explain schema func) h) in
      (output, query_done_at e.schema func text output status now_done begins e.ends_so, whole.written)

  pub reason_written : (words : List (List ℕ)) (text : List ℕ) (end : End ⊥) → Follows F old (course words text) new end → Delivers S before after result end → result ≡ Refused
      → WritesReason (F.held old) (S.written before) (S.written after) words
  reason_written words text wants_memory h d refused = absurd (let wrong : NoMemory ≡ Refused = sym d.status_is ∙ refused in cc)
  reason_written words text (goes_on never) h d refused = absurd never
  reason_written words text (ended status output) h (inr broken) refused = absurd (let wrong : WriteFault ≡ Refused = sym broken.status_is ∙ refused in cc)
  reason_written words text (ended status output) h (inl whole) refused = λ schema func tables function s is told_schema few told_function short unlike.
      let now_refused = sym whole.status_is ∙ refused in
      let fits : length function ≤ 67108864 = omega (arith, short) in
      let e = of_refused F old new schema func tables function text output status now_refused s told_schema few told_function fits
      (subst (λ c. Follows F old (course_of c text) new (ended status output)) (ap command_of is ∙ asks_explain schema func) h) in
      (output, refused_at s func text output status now_refused short unlike e, whole.written)

  pub query_reason_written : (words : List (List ℕ)) (text : List ℕ) (end : End ⊥) → Follows F old (course words text) new end → Delivers S before after result end → result ≡ Refused
      → WritesQueryReason (F.held old) (S.written before) (S.written after) words
  query_reason_written words text wants_memory h d refused = absurd (let wrong : NoMemory ≡ Refused = sym d.status_is ∙ refused in cc)
  query_reason_written words text (goes_on never) h d refused = absurd never
  query_reason_written words text (ended status output) h (inr broken) refused = absurd (let wrong : WriteFault ≡ Refused = sym broken.status_is ∙ refused in cc)
  query_reason_written words text (ended status output) h (inl whole) refused = λ schema func tables function s is told_schema few told_function short begins.
      let now_refused = sym whole.status_is ∙ refused in
      let e = of_refused F old new schema func tables function text output status now_refused s told_schema few told_function short
      (subst (λ c. Follows F old (course_of c text) new (ended status output)) (ap command_of is ∙ asks_explain schema func) h) in
      (output, query_refused_at s func text output status now_refused begins e, whole.written)
