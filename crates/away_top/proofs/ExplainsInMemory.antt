-- Over objects in memory that are to meet no failure, nothing but want of memory or of room is in the way of `explain`.
use Rattle.std.proofs.Common.{◌≡◌, inl, inr, ap, subst, ◌∙◌, ℕ, List, [], ◌∷◌, codes}
use Rattle.away_top.specs.declared.status.Status.{Status}
use Rattle.away_top.specs.Commands.{command_of, course, course_of}
use Rattle.away_top.specs.Course.{Outcome}
use Rattle.away_top.specs.InMemory.{EndsIn, Explained, MayExplain}
use Rattle.away_top.specs.MemoryFiles.{HeldFiles, held_at}
use Rattle.away_top.specs.MemorySink.{RoomySink}
use Rattle.away_top.specs.QueryExplainCourse.{EndsOnFile, explain_course, explained_course}
use Rattle.away_top.specs.Refusals.{IsSchema}
use Rattle.away_top.proofs.EndsInMemory.{leads_on}
use Rattle.away_top.proofs.Unrefused.{same_schema, schema_unrefused}
use Rattle.away_top.proofs.Words.{asks_explain}

module _ (m : HeldFiles) (schema func tables function : List ℕ) (may : MayExplain m schema func tables function) where
  ends_over : (s : IsSchema tables) (text : List ℕ) (status : Status) (output : List ℕ) → Outcome {A = ⊥} (held_at m.held) (explained_course func text s.schema) status output
      → EndsOnFile func s.schema function text status output
  ends_over s text status output o = leads_on func 67108864 _ (held_at m.held func) function status output may.holds_function may.short o

  -- files that are held lead to what is told of the second one
  leads : (text : List ℕ) (status : Status) (output : List ℕ) → Outcome {A = ⊥} (held_at m.held) (explain_course schema func text) status output
      → EndsOnFile func may.fit_schema.is.schema function text status output
  leads text status output o = elim (leads_on schema 67108864 _ (held_at m.held schema) tables status output may.holds_schema may.fit_schema.short o) [
    | inl (rule, refuses, e) ↦ absurd (schema_unrefused may.fit_schema.is rule refuses)
    | inr (s, rest) ↦ subst (λ t. EndsOnFile func t function text status output) (same_schema s may.fit_schema.is) (ends_over s text status output rest)
  ]

  -- what the call leaves
  pub explained : (before after : RoomySink) (words : List (List ℕ)) (text : List ℕ) (result : Status) → words ≡ codes "explain" ∷ schema ∷ func ∷ []
      → EndsIn before after result (Outcome (held_at m.held) (course words text)) → Explained before after result func may.fit_schema.is.schema function
  explained before after words text result is (inl wants) = inl wants
  explained before after words text result is (inr (status, output, o, told)) = inr (
    status,
    output,
    (text, leads text status output (subst (λ c. Outcome (held_at m.held) (course_of c text) status output) (ap command_of is ∙ asks_explain schema func) o)),
    told,
  )
