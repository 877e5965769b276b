-- The stretches of `compile`, `certify` and `batch` make their runs, and what a judged file leads to.
use Rattle.std.proofs.Common.{ℕ, List, [], refl}
use Rattle.away_trees.specs.declared.schemas.Schema.{Schema}
use Rattle.away_lex.specs.declared.refusals.ReadRefusal.{ReadRefusal}
use Rattle.away_top.specs.declared.host.Files.{Ghosts as Files}
use Rattle.away_top.specs.declared.status.Status.{Status}
use Rattle.away_top.specs.declared.ending.Ending.{Ending}
use Rattle.away_top.specs.declared.ending.Halt.{Halt}
use Rattle.away_top.specs.Course.{Course, and_then, ends, RefusedBy}
use Rattle.away_top.specs.Files.{Callable, function_course, over_function, schema_course}
use Rattle.away_top.specs.Refusals.{RefusesRead}
use Rattle.away_top.specs.Runs.{End, goes_on, Follows, IsEnd, Runs}
use Rattle.away_top.specs.Steps.{halt_end, ReadRefused}
use Rattle.away_top.proofs.Stretches.{goes_further, stops_early}

-- a reader's refusal is one of the file's
pub refused_by : (name : List ℕ) (Refuses : ReadRefusal → Type 0) (Rules : List ℕ → Type 0) (error : ReadRefusal) (ending : Ending)
    → ((rule : List ℕ) → RefusesRead Refuses rule → Rules rule) → Refuses error → ReadRefused name error ending → RefusedBy name Rules ending.status ending.output.items
refused_by name Refuses Rules error ending among is (rule, spelled, end) = (rule, among rule (error, is, spelled), (end.status_is, end.output_is))

-- a rule that is broken is one of the file's
pub refused_so : (name : List ℕ) (Some All : List ℕ → Type 0) → ((rule : List ℕ) → Some rule → All rule) → (status : Status) (output : List ℕ)
    → RefusedBy name Some status output → RefusedBy name All status output
refused_so name Some All among status output (rule, is, e) = (rule, among rule is, e)

-- the stretches of a run over a schema's file and a second one
module _ {D B : Type 0} (F : Files D) (schema : List ℕ) (second_course : Schema → Course B) (E : List ℕ → Schema → B → Status → List ℕ → Type 0) where
  abbrev with_tables : List ℕ → Schema → Course ⊥
  with_tables text tables = and_then (second_course tables) (λ b. ends (E text tables b))

  abbrev over_both : List ℕ → Course ⊥
  over_both text = and_then (schema_course schema) (with_tables text)

  -- the run ends with the schema's file
  pub first_stops : (old new : D) (halt : Halt) → Follows F old (schema_course schema) new (halt_end halt) → Runs F old over_both new (halt_end halt)
  first_stops old new halt first = record { text = []; follows = stops_early F old new (schema_course schema) (with_tables []) halt first }

  module _ (old middle new : D) (tables : Schema) (first : Follows F old (schema_course schema) middle (goes_on tables)) where
    -- both files are judged, and the run comes to its end
    pub both_come_to : (b : B) (end : End ⊥) → Follows F middle (second_course tables) new (goes_on b) → ((text : List ℕ) × IsEnd (E text tables b) end) → Runs F old over_both new end
    both_come_to b end second (text, is) = record {
      text = text;
      follows = goes_further F old middle new (schema_course schema) (with_tables text) tables end first
          (goes_further F middle new new (second_course tables) (λ b. ends (E text tables b)) b end second (record { same = refl; how = is }));
    }

    -- the run ends with the second file
    pub second_stops : (halt : Halt) → Follows F middle (second_course tables) new (halt_end halt) → Runs F old over_both new (halt_end halt)
    second_stops halt second = record {
      text = [];
      follows = goes_further F old middle new (schema_course schema) (with_tables []) tables (halt_end halt) first
          (stops_early F middle new (second_course tables) (λ b. ends (E [] tables b)) halt second);
    }

-- the same where the second is a function's
module _ {D : Type 0} (F : Files D) (schema func : List ℕ) (E : List ℕ → Schema → Callable → Status → List ℕ → Type 0) where
  abbrev functions : Schema → Course Callable
  functions tables = function_course tables func

  pub schema_stops : (old new : D) (halt : Halt) → Follows F old (schema_course schema) new (halt_end halt) → Runs F old (λ text. over_function schema func (E text)) new (halt_end halt)
  schema_stops = first_stops F schema functions E

  module _ (old middle new : D) (tables : Schema) (first : Follows F old (schema_course schema) middle (goes_on tables)) where
    pub comes_to : (f : Callable) (end : End ⊥) → Follows F middle (function_course tables func) new (goes_on f) → ((text : List ℕ) × IsEnd (E text tables f) end)
        → Runs F old (λ text. over_function schema func (E text)) new end
    comes_to = both_come_to F schema functions E old middle new tables first

    pub function_stops : (halt : Halt) → Follows F middle (function_course tables func) new (halt_end halt) → Runs F old (λ text. over_function schema func (E text)) new (halt_end halt)
    function_stops = second_stops F schema functions E old middle new tables first
