-- From what proofs look into to what the clauses say.
use Rattle.std.proofs.Common.{◌≡◌, refl, ap, ℕ, List, Option, Some, None, Result, Ok, Err}
use Rattle.away_values.specs.declared.values.Class.{Class}
use Rattle.away_values.specs.declared.values.Answer.TheVariants as answer
use Rattle.away_values.specs.declared.errors.OpError.TheVariants as error
use Rattle.away_trees.specs.declared.queries.Query.{Query}
use Rattle.sql_meaning.specs.Working.{answered, answer_of_rows, rows, sql}
use Rattle.sql_meaning.specs.AtBound.{turned, rows_within}
use Rattle.away_values.specs.declared.values.Value.{Value}
use Rattle.away_values.specs.declared.errors.OpError.{OpError}
use Rattle.away_trees.specs.declared.queries.Expr.{Expr}
use Rattle.away_trees.specs.declared.queries.Select.{Select}
use Rattle.away_values.specs.Results.{Or, Answers}
use Rattle.sql_meaning.specs.Context.{Rows, Context}
use Rattle.sql_meaning.specs.Meaning.{rows_of_select, value}
use Rattle.sql_meaning.specs.Selected.{select_rows}
use Rattle.sql_meaning.specs.Gives.{Gives, value_of}

pub value_answers : (cx : Context) (e : Expr) (r : Result Value OpError) → Gives (value_of cx e) r → Answers (value e cx) r
unfolding Gives value_of
value_answers cx e r h = h

pub ruleset public_rules = (value_answers)

pub select_answers : (cx : Context) (s : Select) (r : Result Rows OpError) → Gives (select_rows cx s) r → Answers (rows_of_select s cx) r
unfolding Gives select_rows
select_answers cx s r h = h

pub ruleset select_rules = (select_answers)

pub rows_answer_so : (q : Query) (T : List Rows) (args : List Value) (k : ℕ) (r : Result (Option Rows) OpError) → Gives (rows_within q T args k) r → Answers (turned (rows q T args k)) r
unfolding Gives rows_within
rows_answer_so q T args k r h = h

pub ruleset rows_rules = (rows_answer_so)

-- the answer that a result tells
abbrev Told : Option (Or Rows) → Result (Option Rows) OpError → Type 0
Told b (Ok None) = b ≡ None
Told b (Ok (Some rows)) = b ≡ Some (Ok rows)
Told b (Err (error.Class c)) = b ≡ Some (Err c)
Told b (Err error.NoMemory) = Unit {0}

answered_turned : (b : Option (Or Rows)) (r : Result (Option Rows) OpError) → Answers (turned b) r → Told b r
answered_turned None (Ok None) h = refl
answered_turned None (Ok (Some rows)) h = cc
answered_turned None (Err (error.Class c)) h = cc
answered_turned None (Err error.NoMemory) h = tt
answered_turned (Some (Ok rows)) (Ok None) h = cc
answered_turned (Some (Ok rows)) (Ok (Some more)) h = cc
answered_turned (Some (Ok rows)) (Err (error.Class c)) h = cc
answered_turned (Some (Ok rows)) (Err error.NoMemory) h = tt
answered_turned (Some (Err c)) (Ok None) h = cc
answered_turned (Some (Err c)) (Ok (Some more)) h = cc
answered_turned (Some (Err c)) (Err (error.Class d)) h = cc
answered_turned (Some (Err c)) (Err error.NoMemory) h = tt

told : (q : Query) (T : List Rows) (args : List Value) (k : ℕ) (r : Result (Option Rows) OpError) → Gives (rows_within q T args k) r → Told (rows q T args k) r
unfolding Gives rows_within
told q T args k r h = answered_turned (rows q T args k) r h

pub more_answers : (q : Query) (T : List Rows) (args : List Value) (k : ℕ) → Gives (rows_within q T args k) (Ok None) → sql q T args k ≡ answer.More
more_answers q T args k h = ap answered (told q T args k (Ok None) h)

pub rows_answer : (q : Query) (T : List Rows) (args : List Value) (k : ℕ) (found : Rows) → Gives (rows_within q T args k) (Ok (Some found)) → sql q T args k ≡ answer_of_rows found
rows_answer q T args k found h = ap answered (told q T args k (Ok (Some found)) h)

pub fault_answers : (q : Query) (T : List Rows) (args : List Value) (k : ℕ) (c : Class) → Gives (rows_within q T args k) (Err (error.Class c)) → sql q T args k ≡ answer.Fault c
fault_answers q T args k c h = ap answered (told q T args k (Err (error.Class c)) h)

pub ruleset answer_rules = (more_answers, rows_answer, fault_answers)
