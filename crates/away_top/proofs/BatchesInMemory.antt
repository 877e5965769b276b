-- Over objects in memory that are to meet no failure, nothing but want of memory or of room is in the way of `batch`.
use Rattle.std.proofs.Common.{◌≡◌, ◌∙◌, inl, inr, ap, subst, ℕ, List}
use Rattle.std.specs.Prelude.{Some}
use Rattle.away_trees.specs.declared.schemas.Schema.{Schema}
use Rattle.away_types.specs.FunctionChecks.{resolved_function}
use Rattle.batch_calls.specs.CallTables.{IsCallTable}
use Rattle.away_top.specs.declared.status.Status.{Status}
use Rattle.away_top.specs.declared.status.Status.TheVariants.{Done}
use Rattle.away_top.specs.BatchCourse.{EndsAt, EndsWith, IsBatchFor, place_of}
use Rattle.away_top.specs.Commands.{command_of, course, course_of}
use Rattle.away_top.specs.Course.{Outcome}
use Rattle.away_top.specs.Files.{callable_of}
use Rattle.away_top.specs.InMemory.{Batched, EndsIn, MayBatch}
use Rattle.away_top.specs.MemoryFiles.{HeldFiles, held_at}
use Rattle.away_top.specs.MemorySink.{RoomySink}
use Rattle.away_top.specs.Refusals.{IsFunction, IsSchema}
use Rattle.away_top.proofs.Batching.{batch_for}
use Rattle.away_top.proofs.Headlines.{EndsOver}
use Rattle.away_top.proofs.InMemory.{leads}
use Rattle.away_top.proofs.Unrefused.{same_function, same_schema}
use Rattle.away_top.proofs.Words.{asks_batch}

module _ (m : HeldFiles) (words : List (List ℕ)) (tables function table : List ℕ) (may : MayBatch m words tables function table) where
  at_place : (text output : List ℕ) (status : Status) (s : IsSchema tables) (f : IsFunction s.schema function) → place_of table s.schema.tables ≡ Some may.place
      → IsCallTable s.schema may.place (resolved_function s.schema f.written) → EndsAt may.schema s.schema (callable_of s.schema f.written) may.place text status output
      → (status ≡ Done) × IsBatchFor tables function table output
  at_place text output status s f is fits (inl (b, e)) = (e.0, batch_for table s f may.place is text output e.1 b)
  at_place text output status s f is fits (inr (lacks, e)) = absurd (lacks fits)

  done : (text output : List ℕ) (status : Status) → EndsOver tables function (λ s f. EndsWith may.schema s f (place_of table s.tables) text) status output
      → (status ≡ Done) × IsBatchFor tables function table output
  done text output status e =
      let s = e.schema in
      let f = e.called in
      let is = subst (λ (schema : Schema). place_of table schema.tables ≡ Some may.place) (same_schema may.fit_schema.is s) may.place_is in
      let fits = same_function may.fit_schema.is s (λ schema written. IsCallTable schema may.place (resolved_function schema written)) may.fit_function.is f may.fit_table in
      at_place text output status s f is fits (subst (λ o. EndsWith may.schema s.schema (callable_of s.schema f.written) o text status output) is e.ends_so)

  -- what the call leaves
  pub batched : (before after : RoomySink) (text : List ℕ) (result : Status) → EndsIn before after result (Outcome (held_at m.held) (course words text)) → Batched before after result tables function table
  batched before after text result (inl wants) = inl wants
  batched before after text result (inr (status, output, o, told)) =
      let led = leads (held_at m.held) may.schema may.func tables function (λ s f. EndsWith may.schema s f (place_of table s.tables) text) may.fit_schema may.fit_function may.holds_schema may.holds_function status output
      (subst (λ c. Outcome (held_at m.held) (course_of c text) status output) (ap command_of may.words_are ∙ asks_batch may.schema may.func table) o) in
      let so = done text output status led in
      inr (
        output,
        so.1,
        λ fits.
            let is = told fits in
            record { status_is = is.status_is ∙ so.0; bytes_are = is.bytes_are },
      )
