-- Over objects in memory that are to meet no failure, nothing but want of memory or of room is in the way of `expand`, and of what it reads.
use Rattle.std.proofs.Common.{◌≡◌, inl, inr, sym, ap, subst, ◌∙◌, ℕ, ◌≤◌, List, [], ◌∷◌, ◌++◌, length, codes}
use Rattle.std.specs.List.{AllByRecursion}
use Rattle.away_trees.specs.declared.statements.Function.{Function}
use Rattle.expanding.specs.Expanded.{Refuses}
use Rattle.plsql_parse.proofs.OneFile.{one_function}
use Rattle.program_check.specs.Refusing.{IsProgram}
use Rattle.tail_calls.specs.declared.refusals.Grown.{Grown}
use Rattle.tail_calls.specs.declared.refusals.WriteRefusal.TheVariants.{Limit}
use Rattle.away_top.specs.declared.status.Status.{Status}
use Rattle.away_top.specs.declared.status.Status.TheVariants.{Done}
use Rattle.away_top.specs.Commands.{command_of, course, course_of}
use Rattle.away_top.specs.Course.{Course, Outcome, and_then}
use Rattle.away_top.specs.ExpandCourse.{AllHeld, AllRead, EndsWith, IsExpandedFor, expand_course, functions_behind, with_functions, with_others}
use Rattle.away_top.specs.InMemory.{EndsIn, Expanded, MayExpand}
use Rattle.away_top.specs.MemoryFiles.{HeldFiles, held_at}
use Rattle.away_top.specs.MemorySink.{RoomySink}
use Rattle.away_top.specs.Refusals.{IsSchema}
use Rattle.away_top.specs.RunCourse.{spelled}
use Rattle.away_top.proofs.EndsInMemory.{leads_on}
use Rattle.away_top.proofs.ExpandRuns.{few_so}
use Rattle.away_top.proofs.Expansions.{expanded_for, none_behind, one_behind}
use Rattle.away_top.proofs.ProgramEnds.{program_unrefused}
use Rattle.away_top.proofs.Unrefused.{read_unrefused, same_schema, schema_unrefused}
use Rattle.away_top.proofs.Words.{asks_expand}

module _ (m : HeldFiles) (status : Status) (output : List ℕ) where
  -- files that are held, short and read as functions lead on with these
  functions_lead : (next : List Function → Course ⊥) (left files : List (List ℕ)) (fs gs : List Function) → AllHeld (held_at m.held) left files → AllByRecursion (λ bytes. length bytes ≤ 1048576) files
      → AllRead files gs → Outcome (held_at m.held) (and_then (functions_behind fs left) next) status output → Outcome (held_at m.held) (next (fs ++ gs)) status output
  functions_lead next [] [] fs [] held short read o = subst (λ all. Outcome (held_at m.held) (next all) status output) (sym (none_behind fs)) o
  functions_lead next [] [] fs (g ∷ gs) held short read o = absurd read
  functions_lead next [] (bytes ∷ files) fs gs held short read o = absurd held
  functions_lead next (name ∷ left) [] fs gs held short read o = absurd held
  functions_lead next (name ∷ left) (bytes ∷ files) fs [] held short read o = absurd read
  functions_lead next (name ∷ left) (bytes ∷ files) fs (g ∷ gs) held short read o = elim (leads_on name 1048576 _ (held_at m.held name) bytes status output held.0 short.0 o) [
    | inl (rule, refuses, e) ↦ absurd (read_unrefused bytes g read.0 rule refuses)
    | inr (f, rest) ↦
        let one : f.written ≡ g = one_function f.reads_as.reads read.0.reads in
        let all : (fs ++ f.written ∷ []) ++ gs ≡ fs ++ g ∷ gs = ap (λ h. (fs ++ h ∷ []) ++ gs) one ∙ sym (one_behind fs g gs) in
        subst (λ hs. Outcome (held_at m.held) (next hs) status output) all (functions_lead next left files (fs ++ f.written ∷ []) gs held.1 short.1 read.1 rest)
  ]

module _ (m : HeldFiles) (schema main tables : List ℕ) (others files : List (List ℕ)) (may : MayExpand m schema main others tables files) where
  program_over : (s : IsSchema tables) → IsProgram may.functions s.schema
  program_over s = subst (IsProgram may.functions) (same_schema may.fit_schema.is s) may.program

  -- what it becomes exceeds no limit
  small_over : (s : IsSchema tables) (which : Grown) (found : ℕ) → Refuses s.schema may.functions (Limit which found) → ⊥
  small_over s = subst (λ t. (which : Grown) (found : ℕ) → Refuses t may.functions (Limit which found) → ⊥) (same_schema may.fit_schema.is s) may.small

  module _ (text : List ℕ) (status : Status) (output : List ℕ) where
    done_so : (s : IsSchema tables) → EndsWith main s.schema may.functions text status output → (status ≡ Done) × IsExpandedFor tables files output
    done_so s (inl (x, e)) = (e.0, expanded_for s may.functions may.read (program_over s) text output e.1 x)
    done_so s (inr (rule, (which, (found, refuses, is)), e)) = absurd (small_over s which found refuses)

    judged_so : (s : IsSchema tables) → Outcome (held_at m.held) (with_functions main others text s.schema may.functions) status output → (status ≡ Done) × IsExpandedFor tables files output
    judged_so s (inl (file, (rule, breaks, e))) = absurd (program_unrefused s.schema may.functions (program_over s) file rule breaks)
    judged_so s (inr (p, so)) = done_so s so

    -- files that are fit lead to the end of a run over them
    schema_leads : Outcome (held_at m.held) (with_others schema main text others) status output → (status ≡ Done) × IsExpandedFor tables files output
    schema_leads o = elim (leads_on schema 67108864 _ (held_at m.held schema) tables status output may.holds_schema may.fit_schema.short o) [
      | inl (rule, refuses, e) ↦ absurd (schema_unrefused may.fit_schema.is rule refuses)
      | inr (s, rest) ↦ judged_so s (functions_lead m status output (with_functions main others text s.schema) (main ∷ others) files [] may.functions may.holds_functions may.short may.read rest)
    ]

    leads : Outcome (held_at m.held) (expand_course schema main others text) status output → (status ≡ Done) × IsExpandedFor tables files output
    leads o = schema_leads (subst (λ found. Outcome (held_at m.held) (and_then (spelled found) (with_others schema main text)) status output) (few_so others may.few) o)

  -- what the call leaves
  pub expanded : (before after : RoomySink) (words : List (List ℕ)) (text : List ℕ) (result : Status) → words ≡ codes "expand" ∷ schema ∷ main ∷ others
      → EndsIn before after result (Outcome (held_at m.held) (course words text)) → Expanded before after result tables files
  expanded before after words text result is (inl wants) = inl wants
  expanded before after words text result is (inr (status, output, o, told)) =
      let so = leads text status output (subst (λ c. Outcome (held_at m.held) (course_of c text) status output) (ap command_of is ∙ asks_expand schema main others) o) in
      inr (
        output,
        so.1,
        λ fits.
            let tells = told fits in
            record { status_is = tells.status_is ∙ so.0; bytes_are = tells.bytes_are },
      )
