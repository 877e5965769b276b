-- Over objects in memory that are to meet no failure, nothing but want of memory or of room is in the way of `compile` and `certify`, and of what they read.
use Rattle.std.proofs.Common.{◌≡◌, inl, inr, ap, subst, ◌∙◌, ℕ, List, Some}
use Rattle.std.specs.declared.option.Option.{Option}
use Rattle.away_trees.specs.declared.schemas.Schema.{Schema}
use Rattle.away_top.specs.declared.compile.Wanted.{Wanted}
use Rattle.away_top.specs.declared.status.Status.{Status}
use Rattle.away_top.specs.Commands.{command_of, course, course_of}
use Rattle.away_top.specs.CompileCourse.{Compiles}
use Rattle.away_top.specs.Course.{and_then, ends, Outcome}
use Rattle.away_top.specs.Files.{Callable, function_course, over_function}
use Rattle.away_top.specs.InMemory.{EndsIn, IsFitFunction, IsFitSchema, MayCompile, Translated}
use Rattle.away_top.specs.MemoryFiles.{HeldFiles, held_at}
use Rattle.away_top.specs.MemorySink.{RoomySink}
use Rattle.away_top.specs.Refusals.{IsSchema}
use Rattle.away_top.proofs.EndsInMemory.{leads_on}
use Rattle.away_top.proofs.Unrefused.{function_unrefused, schema_unrefused}
use Rattle.away_top.proofs.Headlines.{EndsOver, compiled}
use Rattle.away_top.proofs.Words.{asks_compile}

module _ (held : List ℕ → Option (List ℕ)) (schema func tables function : List ℕ) (E : Schema → Callable → Status → List ℕ → Type 0) (fits : IsFitSchema tables) (fit : IsFitFunction fits.is.schema function) where
  function_leads : (s : IsSchema tables) → held func ≡ Some function → (status : Status) (output : List ℕ) → Outcome {A = ⊥} held (and_then (function_course s.schema func) (λ f. ends (E s.schema f))) status output
      → EndsOver tables function E status output
  function_leads s told status output o = elim (leads_on func 1048576 _ (held func) function status output told fit.short o) [
    | inl (rule, refuses, e) ↦ absurd (function_unrefused fits.is s fit.is rule refuses)
    | inr (f, so) ↦ record { schema = s; called = f; ends_so = so }
  ]

  -- files that are fit lead to the end of a run over them
  pub leads : held schema ≡ Some tables → held func ≡ Some function → (status : Status) (output : List ℕ) → Outcome held (over_function schema func E) status output → EndsOver tables function E status output
  leads told_schema told_function status output o = elim (leads_on schema 67108864 _ (held schema) tables status output told_schema fits.short o) [
    | inl (rule, refuses, e) ↦ absurd (schema_unrefused fits.is rule refuses)
    | inr (s, rest) ↦ function_leads s told_function status output rest
  ]

-- what the call leaves
pub translated : (m : HeldFiles) (wanted : Wanted) (before after : RoomySink) (words : List (List ℕ)) (text tables function : List ℕ) (result : Status) → MayCompile m wanted words tables function
    → EndsIn before after result (Outcome (held_at m.held) (course words text)) → Translated wanted before after result tables function
translated m wanted before after words text tables function result p (inl wants) = inl wants
translated m wanted before after words text tables function result p (inr (status, output, o, told)) =
    let led = leads (held_at m.held) p.schema p.func tables function (λ s f. Compiles wanted s f text) p.fit_schema p.fit_function p.holds_schema p.holds_function status output
    (subst (λ c. Outcome (held_at m.held) (course_of c text) status output) (ap command_of p.words_are ∙ asks_compile wanted p.schema p.func) o) in
    let done = compiled wanted tables function text output status led in
    inr (
      output,
      done.1,
      λ fits.
          let is = told fits in
          record { status_is = is.status_is ∙ done.0; bytes_are = is.bytes_are },
    )
