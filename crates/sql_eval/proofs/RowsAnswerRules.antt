-- What a query answers at a bound, to what asks for all of its rows.
use Rattle.std.proofs.Common.{◌≡◌, refl, ap, ℕ, List, Option, Some, None, Ok, Err}
use Rattle.away_values.specs.declared.values.Class.{Class}
use Rattle.away_values.specs.declared.values.Value.{Value}
use Rattle.away_values.specs.declared.errors.OpError.{OpError}
use Rattle.away_values.specs.declared.errors.OpError.TheVariants as error
use Rattle.away_values.specs.Results.{Or, Answers}
use Rattle.away_trees.specs.declared.queries.Query.{Query}
use Rattle.sql_meaning.specs.AtBound.{turned, rows_within}
use Rattle.sql_meaning.specs.Context.{Rows}
use Rattle.sql_meaning.specs.Gives.{Gives}
use Rattle.sql_meaning.specs.Working.{rows}
use Rattle.sql_eval.specs.declared.rows_answer.RowsAnswer.TheVariants as told
use Rattle.sql_eval.specs.RowsAnswers.{rows_answered}

more_turned : (b : Option (Or Rows)) → Answers (turned b) (Ok None) → rows_answered b ≡ told.More
more_turned None h = refl
more_turned (Some (Ok rows)) h = cc
more_turned (Some (Err c)) h = cc

rows_turned : (b : Option (Or Rows)) (found : Rows) → Answers (turned b) (Ok (Some found)) → rows_answered b ≡ told.Rows found
rows_turned None found h = cc
rows_turned (Some (Ok rows)) found h = ap told.Rows cc
rows_turned (Some (Err c)) found h = cc

fault_turned : (b : Option (Or Rows)) (c : Class) → Answers (turned b) (Err (error.Class c)) → rows_answered b ≡ told.Fault c
fault_turned None c h = cc
fault_turned (Some (Ok rows)) c h = cc
fault_turned (Some (Err d)) c h = ap told.Fault cc

pub more_rows : (q : Query) (T : List Rows) (args : List Value) (k : ℕ) → Gives (rows_within q T args k) (Ok None) → rows_answered (rows q T args k) ≡ told.More
unfolding Gives rows_within
more_rows q T args k h = more_turned (rows q T args k) h

pub found_rows : (q : Query) (T : List Rows) (args : List Value) (k : ℕ) (found : Rows)
    → Gives (rows_within q T args k) (Ok (Some found)) → rows_answered (rows q T args k) ≡ told.Rows found
unfolding Gives rows_within
found_rows q T args k found h = rows_turned (rows q T args k) found h

pub fault_of_rows : (q : Query) (T : List Rows) (args : List Value) (k : ℕ) (c : Class)
    → Gives (rows_within q T args k) (Err (error.Class c)) → rows_answered (rows q T args k) ≡ told.Fault c
unfolding Gives rows_within
fault_of_rows q T args k c h = fault_turned (rows q T args k) c h

pub ruleset rows_answer_rules = (more_rows, found_rows, fault_of_rows)
