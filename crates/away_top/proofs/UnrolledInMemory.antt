-- Over objects in memory that are to meet no failure, nothing but want of memory or of room is in the way of `unrolled`.
use Rattle.std.proofs.Common.{◌≡◌, ◌++◌, inl, inr, ◌∙◌, ap, subst, ℕ, List, [], ◌∷◌, codes}
use Rattle.std.specs.Prelude.{IsSome}
use Rattle.std.specs.List.{AllByRecursion}
use Rattle.away_trees.specs.declared.schemas.TableSchema.{TableSchema}
use Rattle.away_types.specs.CheckedQueries.{resolved_query}
use Rattle.away_types.specs.FunctionChecks.{resolved_function}
use Rattle.sql_meaning.specs.Context.{Rows}
use Rattle.sql_meaning.specs.Working.{sql}
use Rattle.away_top.specs.declared.over_tables.program.Reply.TheVariants as reply
use Rattle.away_top.specs.declared.status.Status.{Status}
use Rattle.away_top.specs.Arguments.{bound_of, values_for}
use Rattle.away_top.specs.Commands.{command_of, course, course_of}
use Rattle.away_top.specs.Course.{and_then, ends, Outcome}
use Rattle.away_top.specs.Files.{callable_of}
use Rattle.away_top.specs.InMemory.{EndsIn, IsFitTable}
use Rattle.away_top.specs.MemoryFiles.{HeldFiles, held_at}
use Rattle.away_top.specs.MemorySink.{RoomySink}
use Rattle.away_top.specs.Refusals.{IsFunction, IsSchema}
use Rattle.away_top.specs.RunAnswers.{IsAnswer}
use Rattle.away_top.specs.RunCourse.{spelled}
use Rattle.away_top.specs.TableFiles.{holding, table_file, tables_behind}
use Rattle.away_top.specs.UnrollCourse.{turns_of}
use Rattle.away_top.specs.UnrollInMemory.{AnsweredInTurns, MayRunUnrolled}
use Rattle.away_top.specs.UnrolledCourse.{TellsUnrolled, unrolled_course, with_bound, with_function, with_schema, with_turns, with_values}
use Rattle.away_top.proofs.EndsInMemory.{leads_on}
use Rattle.away_top.proofs.RunsInMemory.{some_of, tells_reply}
use Rattle.away_top.proofs.Telling.{runs_so, telling}
use Rattle.away_top.proofs.UnrolledAnswers.{told_by}
use Rattle.away_top.proofs.Unrefused.{function_unrefused, same_function, schema_unrefused, tables_fit}
use Rattle.away_top.proofs.Words.{asks_unrolled}

module _ (m : HeldFiles) (bound turns schema func dir : List ℕ) (args : List (List ℕ)) (text : List ℕ) (status : Status) (output : List ℕ) where
  -- tables that are fit lead to an answer
  rows_lead : (tell : List Rows → Status → List ℕ → Type 0) → ((tables : List Rows) → tell tables status output → IsAnswer status) → (left : List TableSchema) (done : List Rows)
      → AllByRecursion (IsFitTable (held_at m.held) dir) left
      → Outcome {A = ⊥} (held_at m.held) (and_then (tables_behind dir done left) (λ tables. ends (tell tables))) status output → IsAnswer status
  rows_lead tell tells [] done fit o = tells done o
  rows_lead tell tells (t ∷ left) done fit o =
      let file = table_file dir t.name in
      let led = leads_on file 67108864 _ (held_at m.held file) fit.0.bytes status output fit.0.holds fit.0.short o in
      rows_lead tell tells left (done ++ fit.0.rows ∷ []) fit.1
      (subst (λ o. Outcome {A = ⊥} (held_at m.held) (and_then (and_then (holding file o) (λ rows. tables_behind dir (done ++ rows ∷ []) left)) (λ tables. ends (tell tables))) status output) fit.0.rows_are led)

  module _ (may : MayRunUnrolled m bound turns schema func dir args) (limit most : ℕ) (s : IsSchema may.tables) where
    function_leads : (f : IsFunction s.schema may.function) → Outcome {A = ⊥} (held_at m.held) (with_function limit most dir args text s.schema (callable_of s.schema f.written)) status output → IsAnswer status
    function_leads f o =
        let called = callable_of s.schema f.written in
        let spells = same_function may.fit_schema.is s (λ schema written. IsSome (values_for (resolved_function schema written).params args)) may.fit_function.is f may.spells in
        let values = some_of (values_for called.function.params args) spells in
        rows_lead (TellsUnrolled limit most text s.schema called values.0) (λ tables told. tells_reply (reply.Answer (sql (resolved_query s.schema told.0.query) tables values.0 limit)) status output told.1) s.schema.tables []
        (tables_fit may.fit_schema.is s (IsFitTable (held_at m.held) dir) may.fit_tables)
        (subst (λ o. Outcome {A = ⊥} (held_at m.held) (and_then (spelled o) (with_values limit most dir text s.schema called)) status output) values.1 o)

    schema_leads : Outcome {A = ⊥} (held_at m.held) (with_schema limit most func dir args text s.schema) status output → IsAnswer status
    schema_leads o = elim (leads_on func 1048576 _ (held_at m.held func) may.function status output may.holds_function may.fit_function.short o) [
      | inl (rule, refuses, e) ↦ absurd (function_unrefused may.fit_schema.is s may.fit_function.is rule refuses)
      | inr (f, rest) ↦ function_leads f rest
    ]

  leads : (may : MayRunUnrolled m bound turns schema func dir args) → Outcome {A = ⊥} (held_at m.held) (unrolled_course bound turns schema func dir args text) status output → IsAnswer status
  leads may o =
      let limit = some_of (bound_of bound) may.spells_bound in
      let most = some_of (turns_of turns) may.spells_turns in
      let from_bound = subst (λ o. Outcome {A = ⊥} (held_at m.held) (and_then (spelled o) (with_bound turns schema func dir args text)) status output) limit.1 o in
      let from_turns = subst (λ o. Outcome {A = ⊥} (held_at m.held) (and_then (spelled o) (with_turns limit.0 schema func dir args text)) status output) most.1 from_bound in
      elim (leads_on schema 67108864 _ (held_at m.held schema) may.tables status output may.holds_schema may.fit_schema.short from_turns) [
        | inl (rule, refuses, e) ↦ absurd (schema_unrefused may.fit_schema.is rule refuses)
        | inr (s, rest) ↦ schema_leads may limit.0 most.0 s rest
      ]

-- what the call leaves
pub told : (m : HeldFiles) (before after : RoomySink) (words : List (List ℕ)) (text bound turns schema func dir : List ℕ) (args : List (List ℕ)) (result : Status)
    → words ≡ codes "unrolled" ∷ bound ∷ turns ∷ schema ∷ func ∷ dir ∷ args → MayRunUnrolled m bound turns schema func dir args
    → EndsIn before after result (Outcome (held_at m.held) (course words text)) → AnsweredInTurns m before after result bound turns schema func dir args
told m before after words text bound turns schema func dir args result is may (inl wants) = inl wants
told m before after words text bound turns schema func dir args result is may (inr (status, output, o, tells)) =
    let led = subst (λ c. Outcome (held_at m.held) (course_of c text) status output) (ap command_of is ∙ asks_unrolled bound turns schema func dir args) o in
    let late = leads m bound turns schema func dir args text status output may led in
    inr (
      status,
      output,
      (late, told_by (telling (held_at m.held)) dir args text status output late tt tt bound turns schema func (runs_so (held_at m.held) (unrolled_course bound turns schema func dir args text) status output led)),
      tells,
    )
