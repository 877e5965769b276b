-- `sql BOUND SCHEMA QUERY DIR ARG..`, `rows BOUND SCHEMA QUERY DIR ARG..` and `fn BOUND SCHEMA FUNC
-- DIR ARG..`: a program is run over the tables of a schema.
use Rattle.std.specs.Prelude.{ℕ, List, Option, Some, None, codes}
use Rattle.away_values.specs.declared.values.Value.{Value}
use Rattle.away_trees.specs.declared.schemas.Schema.{Schema}
use Rattle.away_top.specs.declared.over_tables.program.Reply.{Reply}
use Rattle.away_top.specs.declared.over_tables.program.Runnable.{Runnable}
use Rattle.away_top.specs.declared.status.Status.{Status}
use Rattle.away_top.specs.declared.status.Status.TheVariants.{Usage}
use Rattle.away_top.specs.Arguments.{bound_of}
use Rattle.away_top.specs.Course.{Course, and_then, ends, gives, Exactly}
use Rattle.away_top.specs.Files.{schema_course}
use Rattle.away_top.specs.Lines.{line}
use Rattle.away_top.specs.Programs.{Program, arguments_of, program_course, reply_of}
use Rattle.away_top.specs.Replies.{reply_end}
use Rattle.away_top.specs.TableFiles.{tables_course}

-- the run goes on with what words spell, if they spell one
abbrev pub spelled : {A : Type 0} → Option A → Course A
spelled None = ends (Exactly Usage (line (codes "usage")))
spelled (Some a) = gives a

-- the end of a run that gives this
abbrev pub Tells : Reply → Status → List ℕ → Type 0
Tells reply = Exactly (reply_end reply).0 (reply_end reply).1

-- the tables are read, and the program is run over them
abbrev pub with_values : ℕ → Schema → Program → List ℕ → List Value → Course ⊥
with_values bound schema p dir values = and_then (tables_course dir schema.tables) (λ tables. ends (Tells (reply_of p tables values bound)))

-- the arguments are judged before any table is read
abbrev pub with_program : ℕ → Schema → List ℕ → List (List ℕ) → Program → Course ⊥
with_program bound schema dir args p = and_then (spelled (arguments_of p args)) (with_values bound schema p dir)

abbrev pub with_schema : Runnable → List ℕ → List ℕ → List (List ℕ) → ℕ → Schema → Course ⊥
with_schema what file dir args bound schema = and_then (program_course what schema file) (with_program bound schema dir args)

abbrev pub with_bound : Runnable → List ℕ → List ℕ → List ℕ → List (List ℕ) → ℕ → Course ⊥
with_bound what schema file dir args bound = and_then (schema_course schema) (with_schema what file dir args bound)

abbrev pub run_course : Runnable → List ℕ → List ℕ → List ℕ → List ℕ → List (List ℕ) → Course ⊥
run_course what bound schema file dir args = and_then (spelled (bound_of bound)) (with_bound what schema file dir args)
