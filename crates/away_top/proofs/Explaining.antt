-- How a run of `explain` goes, and what the parts of its code make of a file's bytes.
use Rattle.std.proofs.Common.{◌≡◌, inl, inr, refl, subst, ℕ, List, []}
use Rattle.std.specs.Prelude.{Some}
use Rattle.away_lex.specs.declared.refusals.ReadRefusal.{ReadRefusal}
use Rattle.away_names.specs.Rules.{number}
use Rattle.away_trees.specs.declared.schemas.Schema.{Schema}
use Rattle.away_trees.specs.declared.statements.Function.{Function}
use Rattle.away_types.specs.declared.checked_function.CheckedFunction.{CheckedFunction}
use Rattle.away_types.specs.declared.finding.Finding.{Finding}
use Rattle.away_types.specs.CheckedFunctions.{IsChecked}
use Rattle.away_types.specs.FunctionChecks.{function_note}
use Rattle.function_places.specs.declared.stuck_places.Stuck.{Stuck}
use Rattle.plsql_parse.specs.Refusals as functions
use Rattle.away_top.specs.declared.explain.Head.{Head}
use Rattle.away_top.specs.declared.ending.Halt.{Halt}
use Rattle.away_top.specs.declared.host.Files.{Ghosts as Files}
use Rattle.away_top.specs.declared.status.Status.TheVariants.{Refused}
use Rattle.away_top.specs.Course.{Course, ends}
use Rattle.away_top.specs.ExplainCourse.{EndsOn, Tells}
use Rattle.away_top.specs.Explaining.{IsHead, own}
use Rattle.away_top.specs.Explanations.{IsFindingTold, IsFoundAt, IsReadTold, IsReason, IsTold, RefusedAt}
use Rattle.away_top.specs.Files.{as_callable, callable_of, schema_course}
use Rattle.away_top.specs.Lines.{numbered_rule}
use Rattle.away_top.specs.QueryExplainCourse.{EndsOnFile, explain_course, explained_course}
use Rattle.away_top.specs.Refusals.{IsRule, ReadsAsFunction}
use Rattle.away_top.specs.Runs.{End, wants_memory, ended, goes_on, Follows, Holds, IsEnd, IsRead, Runs, StopsAt}
use Rattle.away_top.specs.Steps.{IsHalt, halt_end}
use Rattle.away_top.proofs.Judging.{callable_is}
use Rattle.away_top.proofs.Stretches.{goes_further, goes_on_there, stops_early, stops_there}

-- ---- the run

-- how the bytes of the file are judged
abbrev pub of_bytes : List ℕ → List ℕ → Schema → List ℕ → Course ⊥
of_bytes func made s bytes = ends (EndsOnFile func s bytes made)

module _ {D : Type 0} (F : Files D) (schema func : List ℕ) where
  -- the run ends with the schema's file
  pub tables_stop : (old new : D) (halt : Halt) → Follows F old (schema_course schema) new (halt_end halt) → Runs F old (explain_course schema func) new (halt_end halt)
  tables_stop old new halt first = record { text = []; follows = stops_early F old new (schema_course schema) (explained_course func []) halt first }

  module _ (old middle new : D) (tables : Schema) (first : Follows F old (schema_course schema) middle (goes_on tables)) (read : IsRead F middle func new) where
    -- it ends since the other can't be read or is too long
    pub file_stops : (halt : Halt) → IsHalt (StopsAt F middle func 67108864 new) halt → Runs F old (explain_course schema func) new (halt_end halt)
    file_stops halt stops = record {
      text = [];
      follows = goes_further F old middle new (schema_course schema) (explained_course func []) tables (halt_end halt) first
          (stops_there F middle new func 67108864 (of_bytes func [] tables) halt read stops);
    }

    -- it comes to what is told of the bytes
    pub comes_to_bytes : (bytes : List ℕ) (end : End ⊥) → Holds F middle func 67108864 bytes → ((text : List ℕ) × IsEnd (EndsOnFile func tables bytes text) end) → Runs F old (explain_course schema func) new end
    comes_to_bytes bytes end holds (text, is) = record {
      text = text;
      follows = goes_further F old middle new (schema_course schema) (explained_course func text) tables end first
          (goes_on_there F middle new new func 67108864 (of_bytes func text tables) bytes end read holds (record { same = refl; how = is }));
    }

-- ---- a file that isn't read

module _ (func bytes : List ℕ) (refusal : ReadRefusal) where
  -- the three lines tell the reader's refusal
  pub read_told : (found : Stuck) (rule reason : List ℕ) (end : End ⊥) → RefusedAt bytes refusal found → IsRule refusal rule → IsReason refusal found.ended reason
      → IsEnd (λ status output. IsTold func bytes found.offset rule reason output × (status ≡ Refused)) end
      → IsEnd (λ status output. IsReadTold func bytes refusal output × (status ≡ Refused)) end
  read_told found rule reason wants_memory place is why h = tt
  read_told found rule reason (ended status output) place is why h =
      (record { rule = rule; rule_is = is; found = found; place = place; reason = reason; reasoned = why; told = h.0 }, h.1)
  read_told found rule reason (goes_on never) place is why h = absurd never

  pub unread_so : (s : Schema) (end : End ⊥) → functions.Refuses bytes refusal → IsEnd (λ status output. IsReadTold func bytes refusal output × (status ≡ Refused)) end
      → (text : List ℕ) × IsEnd (EndsOn func s bytes text) end
  unread_so s wants_memory refuses h = ([], tt)
  unread_so s (ended status output) refuses h = ([], inl (inl (record { refusal = refusal; refuses = refuses; told = h.0 }), h.1))
  unread_so s (goes_on never) refuses h = absurd never

-- ---- a function that is read

-- the three lines tell the finding
pub finding_told : (func : List ℕ) (s : Schema) (f : Function) (bytes : List ℕ) (finding : Finding) (offset : ℕ) (rule reason : List ℕ) (end : End ⊥)
    → IsFoundAt s f bytes finding offset reason → rule ≡ numbered_rule (number finding.rule)
    → IsEnd (λ status output. IsTold func bytes offset rule reason output × (status ≡ Refused)) end
    → IsEnd (λ status output. IsFindingTold func s f bytes finding output × (status ≡ Refused)) end
finding_told func s f bytes finding offset rule reason wants_memory found is h = tt
finding_told func s f bytes finding offset rule reason (ended status output) found is h =
    (record { offset = offset; reason = reason; found = found; told = subst (λ u. IsTold func bytes offset u reason output) is h.0 }, h.1)
finding_told func s f bytes finding offset rule reason (goes_on never) found is h = absurd never

module _ (func : List ℕ) (s : Schema) (bytes : List ℕ) (f : Function) (reads : ReadsAsFunction bytes f) where
  pub broken_so : (finding : Finding) (end : End ⊥) → (function_note s f).first ≡ Some finding → IsEnd (λ status output. IsFindingTold func s f bytes finding output × (status ≡ Refused)) end
      → (text : List ℕ) × IsEnd (EndsOn func s bytes text) end
  broken_so finding wants_memory first h = ([], tt)
  broken_so finding (ended status output) first h =
      ([], inl (inr (record { function = f; reads_as = reads; finding = finding; first = first; told = h.0 }), h.1))
  broken_so finding (goes_on never) first h = absurd never

  pub counted_so : (head : Head) → IsHead f head → (checked : CheckedFunction) (end : End ⊥) → IsChecked s f checked.function checked.slots → ((text : List ℕ) × IsEnd (Tells s (as_callable checked) (own head) text) end)
      → (text : List ℕ) × IsEnd (EndsOn func s bytes text) end
  counted_so head kept checked wants_memory is (text, h) = ([], tt)
  counted_so head kept checked (ended status output) is (text, h) =
      let tells : Tells s (callable_of s f) (own head) text status output = subst (λ c. Tells s c (own head) text status output) (callable_is s f checked is) h in
      (text, inr (record { written = f; reads_as = reads; unbroken = is.unbroken }, subst (λ c. Tells s (callable_of s f) c text status output) kept tells))
  counted_so head kept checked (goes_on never) is (text, h) = absurd h
