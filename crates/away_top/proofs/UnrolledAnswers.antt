-- A run of `unrolled` that ends by an answer tells what its query gives.
use Rattle.std.proofs.Common.{◌≡◌, inl, inr, refl, sym, ◌∙◌, ap, subst, ℕ, List, []}
use Rattle.std.specs.List.{AllZip}
use Rattle.away_top.specs.declared.host.Files.{Ghosts as Files}
use Rattle.away_top.specs.declared.host.Sink.{Ghosts as Sink}
use Rattle.away_top.specs.declared.status.Status.{Status}
use Rattle.away_top.specs.Answer.{Delivers}
use Rattle.away_top.specs.Arguments.{bound_of, values_for}
use Rattle.away_top.specs.Commands.{command_of, course, course_of}
use Rattle.away_top.specs.Course.{ends}
use Rattle.away_top.specs.Files.{callable_of, function_course, schema_course}
use Rattle.away_top.specs.Refusals.{IsFunction, IsSchema}
use Rattle.away_top.specs.RunAnswers.{Held, HoldsRows, IsAnswer}
use Rattle.away_top.specs.RunCourse.{spelled}
use Rattle.away_top.specs.Runs.{End, wants_memory, ended, goes_on, Follows}
use Rattle.away_top.specs.TableFiles.{tables_course}
use Rattle.away_top.specs.UnrollCourse.{turns_of}
use Rattle.away_top.specs.UnrolledCourse.{IsUnrolledAnswer, TellsAnswer, TellsUnrolled, unrolled_course, with_bound, with_function, with_schema, with_turns, with_values}
use Rattle.away_values.specs.declared.values.Value.{Value}
use Rattle.sql_meaning.specs.Context.{Rows}
use Rattle.std.specs.Prelude.{Some}
use Rattle.away_top.proofs.Parts.{gone, keeps}
use Rattle.away_top.proofs.Reading.{before, function_read, rows_before, schema_read, silent_function, silent_schema, silent_spelled, silent_tables, tables_read, was_spelled}
use Rattle.away_top.proofs.Words.{asks_unrolled}

module _ {D : Type 0} (F : Files D) (dir : List ℕ) (args : List (List ℕ)) (text : List ℕ) (status : Status) (output : List ℕ) (late : IsAnswer status) where
  -- behind the function's file: arguments, tables, and what is told
  record ToldOver (held : Held) (limit most : ℕ) {schema_bytes function_bytes : List ℕ} (s : IsSchema schema_bytes) (f : IsFunction s.schema function_bytes) : Type 0 where
    pub values : List Value
    pub arguments_are : values_for (callable_of s.schema f.written).function.params args ≡ Some values
    pub rows : List Rows
    pub hold : AllZip (HoldsRows held dir) s.schema.tables rows
    pub tells : TellsUnrolled limit most text s.schema (callable_of s.schema f.written) values rows status output

  told : (now after : D) (limit most : ℕ) {schema_bytes function_bytes : List ℕ} (s : IsSchema schema_bytes) (f : IsFunction s.schema function_bytes)
      → Follows F now (with_function limit most dir args text s.schema (callable_of s.schema f.written)) after (ended status output) → ToldOver (F.held now) limit most s f
  told now after limit most s f h =
      let c = callable_of s.schema f.written in
      let asked = values_for c.function.params args in
      let g = gone F now after (spelled asked) (with_values limit most dir text s.schema c) (ended status output) late (silent_spelled asked) h in
      let spelt = was_spelled F now g.middle asked g.given g.first in
      let rest = subst (λ d. Follows F d (with_values limit most dir text s.schema c g.given) after (ended status output)) spelt.same g.rest in
      let t = gone F now after (tables_course dir s.schema.tables) (λ tables. ends (TellsUnrolled limit most text s.schema c g.given tables)) (ended status output) late (silent_tables dir [] s.schema.tables) rest in
      let were = tables_read F now t.middle dir [] s.schema.tables t.given t.first in
      record {
        values = g.given;
        arguments_are = spelt.is;
        rows = t.given;
        hold = subst (λ all. AllZip (HoldsRows (F.held now) dir) s.schema.tables all) (sym were.are) were.hold;
        tells = t.rest.how;
      }

  pub told_by : (old new : D) (bound turns schema func : List ℕ) → Follows F old (unrolled_course bound turns schema func dir args text) new (ended status output)
      → IsUnrolledAnswer (F.held old) bound turns schema func dir args status output
  told_by old new bound turns schema func h =
      let b = gone F old new (spelled (bound_of bound)) (with_bound turns schema func dir args text) (ended status output) late (silent_spelled (bound_of bound)) h in
      let bound_spelt = was_spelled F old b.middle (bound_of bound) b.given b.first in
      let from_bound = subst (λ d. Follows F d (with_bound turns schema func dir args text b.given) new (ended status output)) bound_spelt.same b.rest in
      let k = gone F old new (spelled (turns_of turns)) (with_turns b.given schema func dir args text) (ended status output) late (silent_spelled (turns_of turns)) from_bound in
      let turns_spelt = was_spelled F old k.middle (turns_of turns) k.given k.first in
      let from_turns = subst (λ d. Follows F d (with_turns b.given schema func dir args text k.given) new (ended status output)) turns_spelt.same k.rest in
      let s = gone F old new (schema_course schema) (with_schema b.given k.given func dir args text) (ended status output) late (silent_schema schema) from_turns in
      let read = schema_read F old s.middle schema s.given s.first in
      let kept = keeps F old s.middle (schema_course schema) (goes_on s.given) s.first in
      let tables = read.tables.schema in
      let from_schema = subst (λ s'. Follows F s.middle (with_schema b.given k.given func dir args text s') new (ended status output)) read.is s.rest in
      let f = gone F s.middle new (function_course tables func) (with_function b.given k.given dir args text tables) (ended status output) late (silent_function tables func) from_schema in
      let judged = function_read F s.middle f.middle tables func f.given f.first in
      let kept_on = keeps F s.middle f.middle (function_course tables func) (goes_on f.given) f.first in
      let from_function = subst (λ f'. Follows F f.middle (with_function b.given k.given dir args text tables f') new (ended status output)) judged.is f.rest in
      let tells = told f.middle new b.given k.given read.tables judged.called from_function in
      record {
        limit = b.given;
        bound_is = bound_spelt.is;
        most = k.given;
        most_is = turns_spelt.is;
        schema_bytes = read.bytes;
        holds_schema = read.are_its;
        tables = read.tables;
        function_bytes = judged.bytes;
        holds_function = before (F.held old) (F.held s.middle) func judged.bytes kept judged.are_its;
        function = judged.called;
        values = tells.values;
        arguments_are = tells.arguments_are;
        rows = tells.rows;
        holds_tables = rows_before (F.held old) (F.held f.middle) dir (λ name bytes e. kept_on name bytes (kept name bytes e)) tables.tables tells.rows tells.hold;
        query = tells.tells.0.query;
        text = text;
        unrolled = tells.tells.0.unrolled;
        equivalent = tells.tells.0.equivalent judged.called.written (record { unbroken = judged.called.unbroken; function = refl; slots_are = refl });
        tells = tells.tells.1;
      }

module _ {D K : Type 0} (F : Files D) (S : Sink K) (old new : D) (before after : K) (result : Status) where
  pub answer_told : (words : List (List ℕ)) (text : List ℕ) (end : End ⊥) → Follows F old (course words text) new end → Delivers S before after result end → IsAnswer result
      → TellsAnswer (F.held old) (S.written before) (S.written after) words result
  answer_told words text wants_memory h d answer = absurd (subst IsAnswer d.status_is answer)
  answer_told words text (goes_on never) h d answer = absurd never
  answer_told words text (ended status output) h (inr broken) answer = absurd (subst IsAnswer broken.status_is answer)
  answer_told words text (ended status output) h (inl whole) answer = λ bound turns schema func dir args is.
      let asked : Follows F old (unrolled_course bound turns schema func dir args text) new (ended status output) =
      subst (λ c. Follows F old (course_of c text) new (ended status output)) (ap command_of is ∙ asks_unrolled bound turns schema func dir args) h in (
        output,
        subst (λ s. IsUnrolledAnswer (F.held old) bound turns schema func dir args s output) (sym whole.status_is)
            (told_by F dir args text status output (subst IsAnswer whole.status_is answer) old new bound turns schema func asked),
        whole.written,
      )
