-- The stretches of `sql`, `rows` and `fn` make their run.
use Rattle.std.proofs.Common.{◌≡◌, ℕ, List, Err, subst}
use Rattle.std.specs.Prelude.{Some}
use Rattle.away_values.specs.declared.values.Value.{Value}
use Rattle.away_trees.specs.declared.schemas.Schema.{Schema}
use Rattle.sql_meaning.specs.Context.{Rows}
use Rattle.away_top.specs.declared.host.Files.{Ghosts as Files}
use Rattle.away_top.specs.declared.ending.Ending.{Ending}
use Rattle.away_top.specs.declared.ending.Halt.{Halt}
use Rattle.away_top.specs.declared.over_tables.program.Reply.{Reply}
use Rattle.away_top.specs.declared.over_tables.program.Runnable.{Runnable}
use Rattle.away_top.specs.Arguments.{bound_of}
use Rattle.away_top.specs.Course.{Course, ends}
use Rattle.away_top.specs.Files.{schema_course}
use Rattle.away_top.specs.Programs.{Program, arguments_of, program_course, reply_of}
use Rattle.away_top.specs.Replies.{reply_end}
use Rattle.away_top.specs.RunCourse.{Tells, run_course, with_bound, with_program, with_schema, with_values}
use Rattle.away_top.specs.Runs.{ended, goes_on, wants_memory, Follows}
use Rattle.away_top.specs.Steps.{IsEnding, IsSpelled, halt_end}
use Rattle.away_top.specs.TableFiles.{tables_course}
use Rattle.away_top.proofs.Reaching.{Reached, at_start, ends_here, further, stops, stops_unspelled, wants, with_spelled}

module _ {D : Type 0} (F : Files D) (old : D) (what : Runnable) (bound schema file dir : List ℕ) (args : List (List ℕ)) where
  abbrev pub whole : Course ⊥
  whole = run_course what bound schema file dir args

  -- a stretch gives, and the run goes on
  pub at_bound : (n : ℕ) → bound_of bound ≡ Some n → Reached F old old whole (with_bound what schema file dir args n)
  at_bound n is = with_spelled F old old whole (bound_of bound) (with_bound what schema file dir args) n is (at_start F old whole)

  pub at_schema : (later : D) (n : ℕ) (s : Schema) → Reached F old old whole (with_bound what schema file dir args n) → Follows F old (schema_course schema) later (goes_on s)
      → Reached F old later whole (with_schema what file dir args n s)
  at_schema later n s r h = further F old old whole later (schema_course schema) (with_schema what file dir args n) s r h

  pub at_program : (now later : D) (n : ℕ) (s : Schema) (p : Program) → Reached F old now whole (with_schema what file dir args n s) → Follows F now (program_course what s file) later (goes_on p)
      → Reached F old later whole (with_program n s dir args p)
  at_program now later n s p r h = further F old now whole later (program_course what s file) (with_program n s dir args) p r h

  pub at_values : (now : D) (n : ℕ) (s : Schema) (p : Program) (values : List Value) → arguments_of p args ≡ Some values → Reached F old now whole (with_program n s dir args p)
      → Reached F old now whole (with_values n s p dir values)
  at_values now n s p values is r = with_spelled F old now whole (arguments_of p args) (with_values n s p dir) values is r

  abbrev told_over : ℕ → Program → List Value → List Rows → Course ⊥
  told_over n p values tables = ends (Tells (reply_of p tables values n))

  pub at_tables : (now later : D) (n : ℕ) (s : Schema) (p : Program) (values : List Value) (tables : List Rows) → Reached F old now whole (with_values n s p dir values)
      → Follows F now (tables_course dir s.tables) later (goes_on tables) → Reached F old later whole (told_over n p values tables)
  at_tables now later n s p values tables r h = further F old now whole later (tables_course dir s.tables) (told_over n p values) tables r h

  -- it ends the run
  pub bound_stops : (halt : Halt) → IsSpelled (bound_of bound) (Err halt) → Follows F old whole old (halt_end halt)
  bound_stops halt is = stops_unspelled F old old whole (bound_of bound) (with_bound what schema file dir args) halt is (at_start F old whole)

  pub schema_stops : (later : D) (n : ℕ) (halt : Halt) → Reached F old old whole (with_bound what schema file dir args n) → Follows F old (schema_course schema) later (halt_end halt)
      → Follows F old whole later (halt_end halt)
  schema_stops later n halt r h = stops F old old whole later (schema_course schema) (with_schema what file dir args n) halt r h

  pub program_stops : (now later : D) (n : ℕ) (s : Schema) (halt : Halt) → Reached F old now whole (with_schema what file dir args n s)
      → Follows F now (program_course what s file) later (halt_end halt) → Follows F old whole later (halt_end halt)
  program_stops now later n s halt r h = stops F old now whole later (program_course what s file) (with_program n s dir args) halt r h

  pub values_stop : (now : D) (n : ℕ) (s : Schema) (p : Program) (halt : Halt) → IsSpelled (arguments_of p args) (Err halt) → Reached F old now whole (with_program n s dir args p)
      → Follows F old whole now (halt_end halt)
  values_stop now n s p halt is r = stops_unspelled F old now whole (arguments_of p args) (with_values n s p dir) halt is r

  pub tables_stop : (now later : D) (n : ℕ) (s : Schema) (p : Program) (values : List Value) (halt : Halt) → Reached F old now whole (with_values n s p dir values)
      → Follows F now (tables_course dir s.tables) later (halt_end halt) → Follows F old whole later (halt_end halt)
  tables_stop now later n s p values halt r h = stops F old now whole later (tables_course dir s.tables) (told_over n p values) halt r h

  -- memory is wanting for the values, or behind the tables
  pub values_want : (now : D) (n : ℕ) (s : Schema) (p : Program) → Reached F old now whole (with_program n s dir args p) → Follows F old whole now wants_memory
  values_want now n s p r = wants F old now whole (with_program n s dir args p) r

  pub reply_wants : (now : D) (n : ℕ) (p : Program) (values : List Value) (tables : List Rows) → Reached F old now whole (told_over n p values tables) → Follows F old whole now wants_memory
  reply_wants now n p values tables r = wants F old now whole (told_over n p values tables) r

  -- what the program gives is told
  pub reply_told : (now : D) (n : ℕ) (p : Program) (values : List Value) (tables : List Rows) (reply : Reply) (ending : Ending) → Reached F old now whole (told_over n p values tables)
      → reply ≡ reply_of p tables values n → IsEnding ending (reply_end reply).0 (reply_end reply).1 → Follows F old whole now (ended ending.status ending.output.items)
  reply_told now n p values tables reply ending r is e =
      ends_here F old now whole (Tells (reply_of p tables values n)) (ended ending.status ending.output.items) r
      (subst (λ a. Tells a ending.status ending.output.items) is (e.status_is, e.output_is))
