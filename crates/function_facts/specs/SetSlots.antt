-- That a run of a checked function reads slots in sight alone, which have been set.
use Rattle.std.specs.Prelude.{◌≡◌, ℕ, ◌<◌, ◌^◌, Bool, true, List, length}
use Rattle.away_values.specs.declared.types.Ty.{Ty}
use Rattle.away_values.specs.declared.values.Value.{Value}
use Rattle.away_trees.specs.declared.schemas.Schema.{Schema}
use Rattle.away_trees.specs.declared.statements.Function.{Function}
use Rattle.away_types.specs.declared.slots.Slot.{Slot}
use Rattle.away_types.specs.CheckedFunctions.{IsChecked}
use Rattle.sql_meaning.specs.Context.{Rows}
use Rattle.plsql_meaning.specs.Functions.{answer_of, begun, over}
use Rattle.plsql_meaning.specs.Laws.{parameters_of}
use Rattle.plsql_meaning.specs.Outcomes.{Env}
use Rattle.plsql_meaning.specs.Sight.{Agree, of_expressions, reads_in_sight}
use Rattle.plsql_meaning.specs.Statements.{meaning}

-- Over the tables of its schema the body of a checked function reads slots in sight alone, from its
-- parameters on.
abbrev pub ReadInSight : Type 0
ReadInSight =
    (s : Schema) (written f : Function) (slots : List Slot) → IsChecked s written f slots → length s.tables < 2 ^ 64
    → reads_in_sight (of_expressions (length s.tables)) f.body (length f.params) (parameters_of f) ≡ true

-- So its body answers the same whatever stands in the slots behind its parameters.
abbrev pub AnswerFromParameters : Type 0
AnswerFromParameters =
    (s : Schema) (written f : Function) (slots : List Slot) → IsChecked s written f slots → length s.tables < 2 ^ 64 → (T : List Rows)
    → length T ≡ length s.tables → (typed : List (Ty × Bool)) (args : List Value) (env : Env) (n : ℕ)
    → Agree (parameters_of f) (begun (over T typed) f args) env
    → answer_of ((meaning (over T typed) f.body).run (length f.params) env n).outcome
    ≡ answer_of ((meaning (over T typed) f.body).run (length f.params) (begun (over T typed) f args) n).outcome
