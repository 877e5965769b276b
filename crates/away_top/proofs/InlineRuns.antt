-- How a run of `inline` goes along its course.
use Rattle.std.proofs.Common.{refl, inr, ℕ, List, [], IfOk, Result, Ok, Err}
use Rattle.away_grammar.specs.Texts.{ReadsQuery}
use Rattle.away_trees.specs.declared.queries.Query.{Query}
use Rattle.away_trees.specs.declared.schemas.Schema.{Schema}
use Rattle.inline_calls.specs.declared.refusals.InlineRefusal.{InlineRefusal}
use Rattle.away_top.specs.declared.ending.Halt.{Halt}
use Rattle.away_top.specs.declared.host.Files.{Ghosts as Files}
use Rattle.away_top.specs.Course.{ends}
use Rattle.away_top.specs.Files.{Callable, function_course, schema_course}
use Rattle.away_top.specs.InlineCourse.{EndsWith, HasText, IsRefusedOf, ToldAs, inline_course, reading_course, with_query, with_schema}
use Rattle.away_top.specs.Runs.{End, wants_memory, ended, goes_on, Follows, IsEnd, Runs}
use Rattle.away_top.specs.Steps.{halt_end}
use Rattle.away_top.proofs.Stretches.{goes_further, stops_early}

-- a refusal is an end of the run
pub refused_so : (query func : List ℕ) (s : Schema) (q : Query) (f : Callable) (text : List ℕ) (e : InlineRefusal) (end : End ⊥) → IsRefusedOf s q f e → IsEnd (ToldAs query func e) end
    → IsEnd (EndsWith query func s q f text) end
refused_so query func s q f text e wants_memory is told = tt
refused_so query func s q f text e (ended status output) is told = inr (e, is, told)
refused_so query func s q f text e (goes_on never) is told = absurd never

-- what was read of some bytes has a text
pub has_text : (bytes : List ℕ) (result : Result Query Halt) → IfOk result (ReadsQuery bytes) → IfOk result HasText
has_text bytes (Ok q) reads = (bytes, reads)
has_text bytes (Err halt) reads = tt

module _ {D : Type 0} (F : Files D) (old : D) (schema query func : List ℕ) where
  pub at_schema : (after : D) (halt : Halt) → Follows F old (schema_course schema) after (halt_end halt) → Runs F old (inline_course schema query func) after (halt_end halt)
  at_schema after halt h = record { text = []; follows = stops_early F old after (schema_course schema) (with_schema query func []) halt h }

  module _ (middle : D) (s : Schema) (first : Follows F old (schema_course schema) middle (goes_on s)) where
    with_tables : (text : List ℕ) (after : D) (end : End ⊥) → Follows F middle (with_schema query func text s) after end → Runs F old (inline_course schema query func) after end
    with_tables text after end h = record { text = text; follows = goes_further F old middle after (schema_course schema) (with_schema query func text) s end first h }

    pub at_query : (after : D) (halt : Halt) → Follows F middle (reading_course query) after (halt_end halt) → Runs F old (inline_course schema query func) after (halt_end halt)
    at_query after halt h = with_tables [] after (halt_end halt) (stops_early F middle after (reading_course query) (with_query query func [] s) halt h)

    module _ (later : D) (q : Query) (second : Follows F middle (reading_course query) later (goes_on q)) where
      with_calls : (text : List ℕ) (after : D) (end : End ⊥) → Follows F later (with_query query func text s q) after end → Runs F old (inline_course schema query func) after end
      with_calls text after end h = with_tables text after end (goes_further F middle later after (reading_course query) (with_query query func text s) q end second h)

      pub at_function : (after : D) (halt : Halt) → Follows F later (function_course s func) after (halt_end halt) → Runs F old (inline_course schema query func) after (halt_end halt)
      at_function after halt h = with_calls [] after (halt_end halt) (stops_early F later after (function_course s func) (λ f. ends (EndsWith query func s q f [])) halt h)

      pub at_end : (after : D) (f : Callable) (end : End ⊥) → Follows F later (function_course s func) after (goes_on f) → ((text : List ℕ) × IsEnd (EndsWith query func s q f text) end)
          → Runs F old (inline_course schema query func) after end
      at_end after f end third (text, is) = with_calls text after end (goes_further F later after after (function_course s func) (λ f. ends (EndsWith query func s q f text)) f end third (record { same = refl; how = is }))
