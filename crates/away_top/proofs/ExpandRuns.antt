-- How a run of `expand` goes along its course.
use Rattle.std.proofs.Common.{◌≡◌, ◌<◌, ◌≤◌, refl, sym, ap, subst, ℕ, List, [], ◌∷◌, length, if◌then◌else◌}
use Rattle.std.specs.Prelude.{Some, None, codes}
use Rattle.std.proofs.lemmas.Bool.{le-ltb, lt-ltb}
use Rattle.away_trees.specs.declared.schemas.Schema.{Schema}
use Rattle.away_trees.specs.declared.statements.Function.{Function}
use Rattle.away_top.specs.declared.ending.Ending.{Ending}
use Rattle.away_top.specs.declared.ending.Halt.{Halt}
use Rattle.away_top.specs.declared.host.Files.{Ghosts as Files}
use Rattle.away_top.specs.declared.status.Status.TheVariants.{Usage}
use Rattle.away_top.specs.Course.{and_then}
use Rattle.away_top.specs.ExpandCourse.{EndsOnProgram, expand_course, few, functions_course, with_functions, with_others, with_schema}
use Rattle.away_top.specs.Files.{schema_course}
use Rattle.away_top.specs.Lines.{line}
use Rattle.away_top.specs.RunCourse.{spelled}
use Rattle.away_top.specs.Runs.{End, ended, goes_on, Follows, IsEnd, Runs}
use Rattle.away_top.specs.Steps.{IsEnding, halt_end}
use Rattle.away_top.proofs.ProgramEnds.{judged_so}
use Rattle.away_top.proofs.Stretches.{goes_further, stops_early}

-- so many files are a form, or none
pub few_so : (others : List (List ℕ)) → length others < 4294967295 → few others ≡ Some others
few_so others lt = ap (λ b. if b then Some others else None) (lt-ltb (length others) 4294967295 lt)

none_so : (others : List (List ℕ)) → 4294967295 ≤ length others → few others ≡ None
none_so others le = ap (λ b. if b then Some others else None) (le-ltb (length others) 4294967295 le)

module _ {D : Type 0} (F : Files D) (old : D) where
  pub no_form_so : (schema main : List ℕ) (others : List (List ℕ)) (ending : Ending) → 4294967295 ≤ length others → IsEnding ending Usage (line (codes "usage"))
      → Runs F old (expand_course schema main others) old (ended ending.status ending.output.items)
  no_form_so schema main others ending le is = record {
    text = [];
    follows =
        subst (λ o. Follows F old (and_then (spelled o) (with_others schema main [])) old (ended ending.status ending.output.items)) (sym (none_so others le))
        (record { same = refl; how = (is.status_is, is.output_is) });
  }

  module _ (schema main : List ℕ) (others : List (List ℕ)) (lt : length others < 4294967295) where
    form : (text : List ℕ) (after : D) (end : End ⊥) → Follows F old (with_others schema main text others) after end → Runs F old (expand_course schema main others) after end
    form text after end h = record {
      text = text;
      follows = subst (λ o. Follows F old (and_then (spelled o) (with_others schema main text)) after end) (sym (few_so others lt)) h;
    }

    pub at_schema : (after : D) (halt : Halt) → Follows F old (schema_course schema) after (halt_end halt) → Runs F old (expand_course schema main others) after (halt_end halt)
    at_schema after halt h = form [] after (halt_end halt) (stops_early F old after (schema_course schema) (with_schema main others []) halt h)

    module _ (middle : D) (s : Schema) (first : Follows F old (schema_course schema) middle (goes_on s)) where
      pub at_functions : (after : D) (halt : Halt) → Follows F middle (functions_course (main ∷ others)) after (halt_end halt) → Runs F old (expand_course schema main others) after (halt_end halt)
      at_functions after halt h =
          form [] after (halt_end halt)
          (goes_further F old middle after (schema_course schema) (with_schema main others []) s (halt_end halt) first
          (stops_early F middle after (functions_course (main ∷ others)) (with_functions main others [] s) halt h))

      pub at_program : (after : D) (fs : List Function) (text : List ℕ) (end : End ⊥) → Follows F middle (functions_course (main ∷ others)) after (goes_on fs) → IsEnd (EndsOnProgram main others text s fs) end
          → Runs F old (expand_course schema main others) after end
      at_program after fs text end read h =
          form text after end
          (goes_further F old middle after (schema_course schema) (with_schema main others text) s end first
          (goes_further F middle after after (functions_course (main ∷ others)) (with_functions main others text s) fs end read (judged_so main others text s fs F after end h)))
