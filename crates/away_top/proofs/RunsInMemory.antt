-- Over objects in memory that are to meet no failure, nothing but want of memory or of room is in the way of `sql`, `rows` and `fn`.
use Rattle.std.proofs.Common.{◌≡◌, ◌++◌, inl, inr, refl, sym, ◌∙◌, ap, subst, ℕ, List, [], ◌∷◌}
use Rattle.std.specs.Prelude.{Option, Some, None, IsSome}
use Rattle.std.specs.List.{AllByRecursion}
use Rattle.away_values.specs.declared.values.Answer.TheVariants as answer
use Rattle.away_trees.specs.declared.schemas.TableSchema.{TableSchema}
use Rattle.sql_meaning.specs.Context.{Rows}
use Rattle.sql_eval.specs.declared.rows_answer.RowsAnswer.TheVariants as rows
use Rattle.away_top.specs.declared.over_tables.program.Reply.{Reply}
use Rattle.away_top.specs.declared.over_tables.program.Reply.TheVariants as reply
use Rattle.away_top.specs.declared.over_tables.program.Runnable.{Runnable}
use Rattle.away_top.specs.declared.over_tables.program.Runnable.TheVariants as run
use Rattle.away_top.specs.declared.status.Status.{Status}
use Rattle.away_top.specs.Arguments.{bound_of}
use Rattle.away_top.specs.Commands.{command_of, course, course_of}
use Rattle.away_top.specs.Course.{and_then, ends, Outcome}
use Rattle.away_top.specs.InMemory.{Answered, EndsIn, IsFitTable, MayRun}
use Rattle.away_top.specs.MemoryFiles.{HeldFiles, held_at}
use Rattle.away_top.specs.MemorySink.{RoomySink}
use Rattle.away_top.specs.Programs.{IsProgram, arguments_of, program_of, reply_of, word_of}
use Rattle.away_top.specs.Refusals.{IsSchema}
use Rattle.away_top.specs.RunAnswers.{Held, IsAnswer}
use Rattle.away_top.specs.RunCourse.{Tells, run_course, spelled, with_bound, with_program, with_schema, with_values}
use Rattle.away_top.specs.TableFiles.{holding, table_file, tables_behind}
use Rattle.away_top.proofs.Answering.{answered}
use Rattle.away_top.proofs.EndsInMemory.{leads_on}
use Rattle.away_top.proofs.Unrefused.{function_unrefused, query_unrefused, row_query_unrefused, schema_unrefused, spelled_again, tables_fit}
use Rattle.away_top.proofs.Telling.{runs_so, telling}
use Rattle.away_top.proofs.Words.{asks_run}

pub some_of : {A : Type 0} (o : Option A) → IsSome o → (a : A) × (o ≡ Some a)
some_of None s = absurd (cc)
some_of (Some a) s = (a, refl)

-- ---- files that are fit lead to an answer

pub tells_reply : (r : Reply) (status : Status) (output : List ℕ) → Tells r status output → IsAnswer status
tells_reply (reply.Answer (answer.Value v)) status output e = subst IsAnswer (sym e.0) tt
tells_reply (reply.Answer (answer.Fault c)) status output e = subst IsAnswer (sym e.0) tt
tells_reply (reply.Answer answer.More) status output e = subst IsAnswer (sym e.0) tt
tells_reply (reply.Answer (answer.Shape n)) status output e = subst IsAnswer (sym e.0) tt
tells_reply (reply.Rows (rows.Rows found)) status output e = subst IsAnswer (sym e.0) tt
tells_reply (reply.Rows (rows.Fault c)) status output e = subst IsAnswer (sym e.0) tt
tells_reply (reply.Rows rows.More) status output e = subst IsAnswer (sym e.0) tt

module _ (held : Held) (dir : List ℕ) (status : Status) (output : List ℕ) (tell : List Rows → Reply) where
  tables_lead : (left : List TableSchema) (done : List Rows) → AllByRecursion (IsFitTable held dir) left
      → Outcome {A = ⊥} held (and_then (tables_behind dir done left) (λ tables. ends (Tells (tell tables)))) status output → IsAnswer status
  tables_lead [] done fit o = tells_reply (tell done) status output o
  tables_lead (t ∷ left) done fit o =
      let file = table_file dir t.name in
      let led = leads_on file 67108864 _ (held file) fit.0.bytes status output fit.0.holds fit.0.short o in
      tables_lead left (done ++ fit.0.rows ∷ []) fit.1
      (subst (λ o. Outcome {A = ⊥} held (and_then (and_then (holding file o) (λ rows. tables_behind dir (done ++ rows ∷ []) left)) (λ tables. ends (Tells (tell tables)))) status output) fit.0.rows_are led)

module _ (m : HeldFiles) (bound schema file dir : List ℕ) (args : List (List ℕ)) (status : Status) (output : List ℕ) where
  program_leads : (what : Runnable) (may : MayRun what m bound schema file dir args) (n : ℕ) (s : IsSchema may.tables)
      → Outcome {A = ⊥} (held_at m.held) (with_schema what file dir args n s.schema) status output
      → (p : IsProgram what s.schema may.program) × Outcome {A = ⊥} (held_at m.held) (with_program n s.schema dir args (program_of what s.schema may.program p)) status output
  program_leads run.Query may n s o = elim (leads_on file 67108864 _ (held_at m.held file) may.program status output may.holds_program may.fit_program.short o) [
    | inl (rule, refuses, e) ↦ absurd (query_unrefused may.fit_schema.is s may.fit_program.is rule refuses)
    | inr (q, rest) ↦ (q, rest)
  ]
  program_leads run.Rows may n s o = elim (leads_on file 67108864 _ (held_at m.held file) may.program status output may.holds_program may.fit_program.short o) [
    | inl (rule, refuses, e) ↦ absurd (row_query_unrefused may.fit_schema.is s may.fit_program.is rule refuses)
    | inr (q, rest) ↦ (q, rest)
  ]
  program_leads run.Function may n s o = elim (leads_on file 1048576 _ (held_at m.held file) may.program status output may.holds_program may.fit_program.short o) [
    | inl (rule, refuses, e) ↦ absurd (function_unrefused may.fit_schema.is s may.fit_program.is rule refuses)
    | inr (f, rest) ↦ (f, rest)
  ]

  module _ (what : Runnable) (may : MayRun what m bound schema file dir args) where
    schema_leads : (n : ℕ) (s : IsSchema may.tables) → Outcome {A = ⊥} (held_at m.held) (with_schema what file dir args n s.schema) status output → IsAnswer status
    schema_leads n s o =
        let led = program_leads what may n s o in
        let program = program_of what s.schema may.program led.0 in
        let values = some_of (arguments_of program args) (spelled_again may.fit_schema.is s what may.program args may.fit_program.is led.0 may.fit_program.spelled) in
        tables_lead (held_at m.held) dir status output (λ tables. reply_of program tables values.0 n) s.schema.tables [] (tables_fit may.fit_schema.is s (IsFitTable (held_at m.held) dir) may.fit_tables)
        (subst (λ o. Outcome {A = ⊥} (held_at m.held) (and_then (spelled o) (with_values n s.schema program dir)) status output) values.1 led.1)

    leads : Outcome {A = ⊥} (held_at m.held) (run_course what bound schema file dir args) status output → IsAnswer status
    leads o =
        let n = some_of (bound_of bound) may.spells_bound in
        let from_bound = subst (λ o. Outcome {A = ⊥} (held_at m.held) (and_then (spelled o) (with_bound what schema file dir args)) status output) n.1 o in
        elim (leads_on schema 67108864 _ (held_at m.held schema) may.tables status output may.holds_schema may.fit_schema.short from_bound) [
          | inl (rule, refuses, e) ↦ absurd (schema_unrefused may.fit_schema.is rule refuses)
          | inr (s, rest) ↦ schema_leads n.0 s rest
        ]

-- what the call leaves
pub run_told : (what : Runnable) (m : HeldFiles) (before after : RoomySink) (words : List (List ℕ)) (text bound schema file dir : List ℕ) (args : List (List ℕ)) (result : Status)
    → words ≡ word_of what ∷ bound ∷ schema ∷ file ∷ dir ∷ args → MayRun what m bound schema file dir args
    → EndsIn before after result (Outcome (held_at m.held) (course words text)) → Answered what m before after result bound schema file dir args
run_told what m before after words text bound schema file dir args result is may (inl wants) = inl wants
run_told what m before after words text bound schema file dir args result is may (inr (status, output, o, told)) =
    let led = subst (λ c. Outcome (held_at m.held) (course_of c text) status output) (ap command_of is ∙ asks_run what bound schema file dir args) o in
    let late = leads m bound schema file dir args status output what may led in
    inr (
      status,
      output,
      (late, answered (telling (held_at m.held)) what tt tt bound schema file dir args status output late (runs_so (held_at m.held) (run_course what bound schema file dir args) status output led)),
      told,
    )
