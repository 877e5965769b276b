-- What the laws of this crate say.
use Rattle.std.specs.Prelude.{
  ◌≡◌,
  ◌≢◌,
  ◌≤◌,
  ℕ,
  ℤ,
  pos,
  ◌+ℤ◌,
  ◌-ℤ◌,
  ◌<ℤ◌,
  Bool,
  true,
  false,
  nat_lt,
  List,
  length,
}
use Rattle.away_values.specs.declared.types.Ty.{Ty}
use Rattle.away_values.specs.declared.values.Answer.TheVariants as answer
use Rattle.away_values.specs.declared.values.Value.{Value}
use Rattle.away_values.specs.declared.values.Value.TheVariants as val
use Rattle.away_trees.specs.declared.queries.Expr.{Expr}
use Rattle.away_trees.specs.declared.queries.Query.{Query}
use Rattle.away_trees.specs.declared.schemas.Schema.{Schema}
use Rattle.away_trees.specs.declared.statements.Function.{Function}
use Rattle.away_trees.specs.declared.statements.Stmt.{Stmt}
use Rattle.away_trees.specs.Count.{weight}
use Rattle.away_trees.specs.Fits.{FitsSchema}
use Rattle.sql_meaning.specs.Context.{Rows}
use Rattle.sql_meaning.specs.Equivalent.{IsEquivalent}
use Rattle.sql_meaning.specs.OneReturn.{answer_of_return}
use Rattle.sql_meaning.specs.Typed.{AreTyped}
use Rattle.sql_meaning.specs.Working.{sql}
use Rattle.plsql_meaning.specs.Counters.{CountsTo, IsInteger}
use Rattle.plsql_meaning.specs.Equivalent.{answers, Equivalent, IsOneReturn, types_of}
use Rattle.plsql_meaning.specs.Functions.{answer_of, begun, function_answer, over}
use Rattle.plsql_meaning.specs.Loops.{counts}
use Rattle.plsql_meaning.specs.Outcomes.{Env}
use Rattle.plsql_meaning.specs.Sight.{
  Agree,
  Alike,
  AreReaders,
  of_expressions,
  Readers,
  reads_in_sight,
  Sight,
}
use Rattle.plsql_meaning.specs.Statements.{meaning, Setting}

-- ---- bounds

-- within more turns the answer is the same
abbrev pub AnswersStay : Type 0
AnswersStay =
    (set : Setting) (f : Function) (args : List Value) (n m : ℕ) → n ≤ m → function_answer set f args n ≢ answer.More
    → function_answer set f args m ≡ function_answer set f args n

-- within fewer turns it needs more too
abbrev pub MoreBefore : Type 0
MoreBefore =
    (set : Setting) (f : Function) (args : List Value) (n m : ℕ) → m ≤ n → function_answer set f args n ≡ answer.More
    → function_answer set f args m ≡ answer.More

-- ---- shapes

abbrev pub NoShape : Type 0
NoShape = (set : Setting) (f : Function) (args : List Value) (n k : ℕ) → function_answer set f args n ≢ answer.Shape k

abbrev pub NoShapeOfQuery : Type 0
NoShapeOfQuery =
    (schema : Schema) (f : Function) (slots : List (Ty × Bool)) (q : Query)
    → Equivalent schema f slots q
    → (T : List Rows) (args : List Value) (n k : ℕ)
    → FitsSchema schema T → AreTyped (types_of f) args → sql q T args n ≢ answer.Shape k

-- ---- one RETURN

abbrev pub OneReturnAnswers : Type 0
OneReturnAnswers =
    (f : Function) (e : Expr) → IsOneReturn f e
    → (slots : List (Ty × Bool)) (T : List Rows) (args : List Value) (n : ℕ)
    → answers f slots T args n ≡ answer_of_return e T args n

abbrev pub OneReturnEquivalent : Type 0
OneReturnEquivalent =
    (schema : Schema) (f : Function) (e : Expr) (q : Query) → IsOneReturn f e
    → IsEquivalent (FitsSchema schema) (AreTyped (types_of f)) (weight f) (answer_of_return e) q
    → (slots : List (Ty × Bool)) → Equivalent schema f slots q

-- ---- counters

abbrev pub CountsUp : Type 0
CountsUp =
    (last : Value) (var : ℕ) (c by : ℤ) → IsInteger c → IsInteger by → pos 0 <ℤ by
    → CountsTo (c +ℤ by) ((counts false last (val.Int by) var).next (val.Int c))

abbrev pub CountsDown : Type 0
CountsDown =
    (last : Value) (var : ℕ) (c by : ℤ) → IsInteger c → IsInteger by → pos 0 <ℤ by
    → CountsTo (c -ℤ by) ((counts true last (val.Int by) var).next (val.Int c))

-- ---- sights

-- a statement that reads slots in sight alone ends alike from variables that agree there
abbrev pub StatementsSee : Type 0
StatementsSee =
    (set : Setting) (r : Readers) → AreReaders set r → (s : Stmt) (at : ℕ) (sight : Sight) → reads_in_sight r s at sight ≡ true
    → Alike sight ((meaning set s).run at)

-- the parameters alone are in sight where the body begins
abbrev pub parameters_of : Function → Sight
parameters_of f = λ i. nat_lt i (length f.params)

-- such a body answers the same from any values of the slots behind the parameters
abbrev pub BodiesSee : Type 0
BodiesSee =
    (set : Setting) (r : Readers) → AreReaders set r → (f : Function) (args : List Value) (env : Env) (n : ℕ)
    → reads_in_sight r f.body (length f.params) (parameters_of f) ≡ true → Agree (parameters_of f) (begun set f args) env
    → answer_of ((meaning set f.body).run (length f.params) env n).outcome
    ≡ answer_of ((meaning set f.body).run (length f.params) (begun set f args) n).outcome

abbrev pub ExpressionsSee : Type 0
ExpressionsSee =
    (T : List Rows) (slots : List (Ty × Bool)) → AreReaders (over T slots) (of_expressions (length T))
