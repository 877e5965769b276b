-- What a run over a schema's file and a function's has written that is done, as one of `compile` or `certify`.
use Rattle.std.proofs.Common.{◌≡◌, inl, inr, ℕ, List, Some, IfSome, refl, ap, subst, sym, ◌∙◌}
use Rattle.away_trees.specs.declared.schemas.Schema.{Schema}
use Rattle.away_top.specs.declared.compile.Wanted.{Wanted}
use Rattle.away_top.specs.declared.host.Files.{Ghosts as Files}
use Rattle.away_top.specs.declared.host.Sink.{Ghosts as Sink}
use Rattle.away_top.specs.declared.status.Status.{Status}
use Rattle.away_top.specs.declared.status.Status.TheVariants.{Done, NoMemory, Refused, ReadFault, WriteFault}
use Rattle.away_top.specs.Answer.{Delivers}
use Rattle.away_top.specs.Commands.{command_of, course, course_of}
use Rattle.away_top.specs.CompileCourse.{Compiles, IsWritten}
use Rattle.away_top.specs.Course.{RefusedBy}
use Rattle.away_top.specs.Files.{Callable, callable_of, over_function}
use Rattle.away_top.specs.Refusals.{IsFunction, IsSchema}
use Rattle.away_top.specs.Runs.{End, wants_memory, ended, goes_on, Follows, Holds, StopsAt}
use Rattle.away_top.specs.Translation.{IsTranslation, Translates}
use Rattle.away_top.proofs.Words.{asks_compile}

pub translation : (wanted : Wanted) (schema func : List ℕ) (s : IsSchema schema) (f : IsFunction s.schema func) (output : List ℕ) → IsWritten wanted s.schema (callable_of s.schema f.written) output
    → IsTranslation wanted schema func output
translation wanted schema func s f output w = record {
  tables = s;
  function = f;
  query = w.is.query;
  forms = w.forms;
  text = w.text;
  compiled = w.is.compiled;
  equivalent = w.is.equivalent f.written (record { unbroken = f.unbroken; function = refl; slots_are = refl });
  output_is = w.output_is;
}

-- what the bytes of two files read as, and how the run over them ends
pub record EndsOver (tables function : List ℕ) (E : Schema → Callable → Status → List ℕ → Type 0) (status : Status) (output : List ℕ) : Type 0 where
  pub schema : IsSchema tables
  pub called : IsFunction schema.schema function
  pub ends_so : E schema.schema (callable_of schema.schema called.written) status output

pub compiled : (wanted : Wanted) (tables function text output : List ℕ) (status : Status) → EndsOver tables function (λ s f. Compiles wanted s f text) status output
    → (status ≡ Done) × IsTranslation wanted tables function output
compiled wanted tables function text output status e =
    let so = e.ends_so in
    (so.1.0, subst (IsTranslation wanted tables function) (sym so.1.1) (translation wanted tables function e.schema e.called text so.0))

module _ {D : Type 0} (F : Files D) where
  pub no_stop : (before after : D) (name : List ℕ) (limit : ℕ) (status : Status) (output : List ℕ) → status ≡ Done → StopsAt F before name limit after status output → ⊥
  no_stop before after name limit status output done (inl (u, e)) = let wrong : ReadFault ≡ Done = sym e.0 ∙ done in cc
  no_stop before after name limit status output done (inr (long, e)) = let wrong : Refused ≡ Done = sym e.0 ∙ done in cc

  pub no_refusal : (name : List ℕ) (Rules : List ℕ → Type 0) (status : Status) (output : List ℕ) → status ≡ Done → RefusedBy name Rules status output → ⊥
  no_refusal name Rules status output done (rule, is, e) = let wrong : Refused ≡ Done = sym e.0 ∙ done in cc

  pub same_bytes : (now : D) (name : List ℕ) (limit : ℕ) (bytes known : List ℕ) → F.held now name ≡ Some known → Holds F now name limit bytes → bytes ≡ known
  same_bytes now name limit bytes known is holds = subst (λ o. IfSome o (λ h. bytes ≡ h)) is holds.same

  -- a run that is done has read and judged the bytes that are told
  pub of_files : (E : Schema → Callable → Status → List ℕ → Type 0) (old new : D) (schema func tables function output : List ℕ) (status : Status) → status ≡ Done → F.held old schema ≡ Some tables → F.held old func ≡ Some function
      → Follows F old (over_function schema func E) new (ended status output) → EndsOver tables function E status output
  of_files E old new schema func tables function output status done told_schema told_function (inl h) = absurd h.how
  of_files E old new schema func tables function output status done told_schema told_function (inr (middle, read, inl h)) = absurd (no_stop old middle schema 67108864 status output done h.how)
  of_files E old new schema func tables function output status done told_schema told_function (inr (middle, read, inr (bytes, holds, inl h))) = absurd (no_refusal schema _ status output done h.how)
  of_files E old new schema func tables function output status done told_schema told_function (inr (middle, read, inr (bytes, holds, inr (s, inl h)))) = absurd h.how
  of_files E old new schema func tables function output status done told_schema told_function (inr (middle, read, inr (bytes, holds, inr (s, inr (last, reread, inl h))))) = absurd (no_stop middle last func 1048576 status output done h.how)
  of_files E old new schema func tables function output status done told_schema told_function (inr (middle, read, inr (bytes, holds, inr (s, inr (last, reread, inr (more, held, inl h)))))) = absurd (no_refusal func _ status output done h.how)
  of_files E old new schema func tables function output status done told_schema told_function (inr (middle, read, inr (bytes, holds, inr (s, inr (last, reread, inr (more, held, inr (f, h))))))) =
      let schema_is = same_bytes old schema 67108864 bytes tables told_schema holds in
      let function_is = same_bytes middle func 1048576 more function (read.kept func function told_function) held in
      subst (λ b. EndsOver b function E status output) schema_is (subst (λ b. EndsOver bytes b E status output) function_is (record { schema = s; called = f; ends_so = h.how }))

module _ {D K : Type 0} (F : Files D) (S : Sink K) (old new : D) (before after : K) (result : Status) (wanted : Wanted) where
  pub translated : (words : List (List ℕ)) (text : List ℕ) (end : End ⊥) → Follows F old (course words text) new end → Delivers S before after result end → result ≡ Done
      → Translates wanted (F.held old) (S.written before) (S.written after) words
  translated words text wants_memory h d done = absurd (let wrong : NoMemory ≡ Done = sym d.status_is ∙ done in cc)
  translated words text (goes_on never) h d done = absurd never
  translated words text (ended status output) h (inr broken) done = absurd (let wrong : WriteFault ≡ Done = sym broken.status_is ∙ done in cc)
  translated words text (ended status output) h (inl whole) done = λ schema func tables function is told_schema told_function. (
    output,
    (compiled wanted tables function text output status
        (of_files F (λ s f. Compiles wanted s f text) old new schema func tables function output status (sym whole.status_is ∙ done) told_schema told_function
        (subst (λ c. Follows F old (course_of c text) new (ended status output)) (ap command_of is ∙ asks_compile wanted schema func) h))).1,
    whole.written,
  )
