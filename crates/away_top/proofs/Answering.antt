-- A run of `sql`, `rows` or `fn` that ends by an answer or by rows tells what its program gives.
use Rattle.std.proofs.Common.{◌≡◌, inl, inr, sym, ◌∙◌, ap, subst, ℕ, List, []}
use Rattle.std.specs.Prelude.{Some}
use Rattle.std.specs.List.{AllZip}
use Rattle.away_values.specs.declared.values.Value.{Value}
use Rattle.away_trees.specs.declared.schemas.Schema.{Schema}
use Rattle.sql_meaning.specs.Context.{Rows}
use Rattle.away_top.specs.declared.host.Files.{Ghosts as Files}
use Rattle.away_top.specs.declared.host.Sink.{Ghosts as Sink}
use Rattle.away_top.specs.declared.over_tables.program.Runnable.{Runnable}
use Rattle.away_top.specs.declared.status.Status.{Status}
use Rattle.away_top.specs.Answer.{Delivers}
use Rattle.away_top.specs.Arguments.{bound_of}
use Rattle.away_top.specs.Commands.{command_of, course, course_of}
use Rattle.away_top.specs.Course.{ends}
use Rattle.away_top.specs.Files.{schema_course}
use Rattle.away_top.specs.Programs.{Program, arguments_of, program_course, program_of, reply_of}
use Rattle.away_top.specs.RunAnswers.{AnswersRun, Held, HoldsRows, IsAnswer, IsAnswered}
use Rattle.away_top.specs.RunCourse.{Tells, run_course, spelled, with_bound, with_program, with_schema, with_values}
use Rattle.away_top.specs.Runs.{End, wants_memory, ended, goes_on, Follows}
use Rattle.away_top.specs.TableFiles.{tables_course}
use Rattle.away_top.proofs.Parts.{gone, keeps}
use Rattle.away_top.proofs.Reading.{before, program_read, rows_before, schema_read, silent_program, silent_schema, silent_spelled, silent_tables, tables_read, was_spelled}
use Rattle.away_top.proofs.Words.{asks_run}

record CompiledQuery (held : Held) (dir : List ℕ) (s : Schema) (p : Program) (args : List (List ℕ)) (most : ℕ) (status : Status) (output : List ℕ) : Type 0 where
  pub values : List Value
  pub arguments_are : arguments_of p args ≡ Some values
  pub rows : List Rows
  pub hold : AllZip (HoldsRows held dir) s.tables rows
  pub tells : Tells (reply_of p rows values most) status output

module _ {D : Type 0} (F : Files D) where
  told : (now after : D) (dir : List ℕ) (s : Schema) (p : Program) (args : List (List ℕ)) (most : ℕ) (status : Status) (output : List ℕ) → IsAnswer status
      → Follows F now (with_program most s dir args p) after (ended status output) → CompiledQuery (F.held now) dir s p args most status output
  told now after dir s p args most status output late h =
      let g = gone F now after (spelled (arguments_of p args)) (with_values most s p dir) (ended status output) late (silent_spelled (arguments_of p args)) h in
      let spelt = was_spelled F now g.middle (arguments_of p args) g.given g.first in
      let rest = subst (λ d. Follows F d (with_values most s p dir g.given) after (ended status output)) spelt.same g.rest in
      let t = gone F now after (tables_course dir s.tables) (λ tables. ends (Tells (reply_of p tables g.given most))) (ended status output) late (silent_tables dir [] s.tables) rest in
      let were = tables_read F now t.middle dir [] s.tables t.given t.first in
      record {
        values = g.given;
        arguments_are = spelt.is;
        rows = t.given;
        hold = subst (λ all. AllZip (HoldsRows (F.held now) dir) s.tables all) (sym were.are) were.hold;
        tells = t.rest.how;
      }

  pub answered : (what : Runnable) (old new : D) (bound schema file dir : List ℕ) (args : List (List ℕ)) (status : Status) (output : List ℕ) → IsAnswer status
      → Follows F old (run_course what bound schema file dir args) new (ended status output) → IsAnswered what (F.held old) bound schema file dir args status output
  answered what old new bound schema file dir args status output late h =
      let b = gone F old new (spelled (bound_of bound)) (with_bound what schema file dir args) (ended status output) late (silent_spelled (bound_of bound)) h in
      let spelt = was_spelled F old b.middle (bound_of bound) b.given b.first in
      let from_bound = subst (λ d. Follows F d (with_bound what schema file dir args b.given) new (ended status output)) spelt.same b.rest in
      let s = gone F old new (schema_course schema) (with_schema what file dir args b.given) (ended status output) late (silent_schema schema) from_bound in
      let read = schema_read F old s.middle schema s.given s.first in
      let kept = keeps F old s.middle (schema_course schema) (goes_on s.given) s.first in
      let tables = read.tables.schema in
      let from_schema = subst (λ s'. Follows F s.middle (with_schema what file dir args b.given s') new (ended status output)) read.is s.rest in
      let p = gone F s.middle new (program_course what tables file) (with_program b.given tables dir args) (ended status output) late (silent_program what tables file) from_schema in
      let judged = program_read F what s.middle p.middle tables file p.given p.first in
      let kept_on = keeps F s.middle p.middle (program_course what tables file) (goes_on p.given) p.first in
      let program = program_of what tables judged.bytes judged.program in
      let from_program = subst (λ p'. Follows F p.middle (with_program b.given tables dir args p') new (ended status output)) judged.is p.rest in
      let tells = told p.middle new dir tables program args b.given status output late from_program in
      record {
        most = b.given;
        bound_is = spelt.is;
        schema_bytes = read.bytes;
        holds_schema = read.are_its;
        tables = read.tables;
        file_bytes = judged.bytes;
        holds_file = before (F.held old) (F.held s.middle) file judged.bytes kept judged.are_its;
        program = judged.program;
        values = tells.values;
        arguments_are = tells.arguments_are;
        rows = tells.rows;
        holds_tables = rows_before (F.held old) (F.held p.middle) dir (λ name bytes e. kept_on name bytes (kept name bytes e)) tables.tables tells.rows tells.hold;
        tells = tells.tells;
      }

module _ {D K : Type 0} (F : Files D) (S : Sink K) (old new : D) (before after : K) (result : Status) (what : Runnable) where
  pub run_answered : (words : List (List ℕ)) (text : List ℕ) (end : End ⊥) → Follows F old (course words text) new end → Delivers S before after result end → IsAnswer result
      → AnswersRun what (F.held old) (S.written before) (S.written after) words result
  run_answered words text wants_memory h d answer = absurd (subst IsAnswer d.status_is answer)
  run_answered words text (goes_on never) h d answer = absurd never
  run_answered words text (ended status output) h (inr broken) answer = absurd (subst IsAnswer broken.status_is answer)
  run_answered words text (ended status output) h (inl whole) answer = λ bound schema file dir args is. (
    output,
    subst (λ s. IsAnswered what (F.held old) bound schema file dir args s output) (sym whole.status_is)
        (answered F what old new bound schema file dir args status output (subst IsAnswer whole.status_is answer)
        (subst (λ c. Follows F old (course_of c text) new (ended status output)) (ap command_of is ∙ asks_run what bound schema file dir args) h)),
    whole.written,
  )
