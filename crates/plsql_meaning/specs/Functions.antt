-- What a function answers.
use Rattle.std.specs.Prelude.{
  ℕ,
  Bool,
  ◌&&◌,
  if◌then◌else◌,
  List,
  ◌++◌,
  length,
  map,
  replicate,
}
use Rattle.std.specs.List.{list_any}
use Rattle.away_values.specs.declared.types.Ty.{Ty}
use Rattle.away_values.specs.declared.values.Value.{Value}
use Rattle.away_values.specs.declared.values.Value.TheVariants as val
use Rattle.away_values.specs.declared.values.Answer.{Answer}
use Rattle.away_values.specs.declared.values.Answer.TheVariants as answer
use Rattle.away_trees.specs.declared.statements.Function.{Function}
use Rattle.away_values.specs.Operators.{is_null}
use Rattle.sql_meaning.specs.Context.{Rows}
use Rattle.sql_meaning.specs.OneReturn.{body}
use Rattle.sql_meaning.specs.Meaning.{value, rows_of_select}
use Rattle.plsql_meaning.specs.Outcomes.{
  Env,
  Outcome,
  normal,
  exits,
  continues,
  returns,
  faults,
  more,
  no_return,
}
use Rattle.plsql_meaning.specs.Statements.{Setting, meaning}

abbrev pub answer_of : Outcome → Answer
answer_of (returns v) = answer.Value v
answer_of (faults c) = answer.Fault c
answer_of more = answer.More
answer_of normal = answer.Fault no_return
answer_of (exits l) = answer.Fault no_return
answer_of (continues l) = answer.Fault no_return

-- the variables with which the body begins: the arguments, and NULL in every other slot
abbrev pub begun : Setting → Function → List Value → Env
begun set f args = args ++ replicate (meaning set f.body).vars val.Null

-- the answer within n turns
abbrev pub function_answer : Setting → Function → List Value → ℕ → Answer
function_answer set f args n =
    if f.strict && list_any is_null args then answer.Value val.Null
    else answer_of ((meaning set f.body).run (length f.params) (begun set f args) n).outcome

-- over tables, by the types of the slots, and whether each is NOT NULL
abbrev pub over_slots : List Rows → List Ty → List Bool → Setting
over_slots tables types not_null = record {
  value = λ e env. value e (body tables env);
  rows = λ s env. rows_of_select s (body tables env);
  types = types;
  not_null = not_null;
}

-- the same, where each slot has its type, and is NOT NULL or not
abbrev pub over : List Rows → List (Ty × Bool) → Setting
over tables slots = over_slots tables (map (λ (x : Ty × Bool). x.0) slots)
    (map (λ (x : Ty × Bool). x.1) slots)
