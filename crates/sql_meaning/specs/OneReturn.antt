-- A function whose body is one RETURN, and that every query which is its template but for names is
-- equivalent to it.
use Rattle.std.specs.Prelude.{◌≡◌, ℕ, ◌^◌, ◌<◌, true, false, List, [], length, nat_lt, Ok, Err}
use Rattle.away_values.specs.declared.types.Ty.{Ty}
use Rattle.away_values.specs.declared.values.Value.{Value}
use Rattle.away_values.specs.declared.values.Answer.{Answer}
use Rattle.away_values.specs.declared.values.Answer.TheVariants as answer
use Rattle.away_trees.specs.declared.queries.Expr.{Expr}
use Rattle.away_trees.specs.declared.queries.Query.{Query}
use Rattle.away_values.specs.Results.{Or}
use Rattle.sql_meaning.specs.Context.{Rows, Context}
use Rattle.sql_meaning.specs.Meaning.{value, has_aggregate}
use Rattle.sql_meaning.specs.Reads.{fits}
use Rattle.sql_meaning.specs.Names.{bare}
use Rattle.sql_meaning.specs.Template.{query_of_return}
use Rattle.sql_meaning.specs.Typed.{AreTyped}
use Rattle.sql_meaning.specs.Equivalent.{FunctionAnswer, IsEquivalent}

-- where the body of a function stands: its variables and the tables are seen there
abbrev pub body : List Rows → List Value → Context
body tables env = record { env = env; args = []; frames = []; tables = tables; group = [] }

abbrev pub returned : Or Value → Answer
returned (Ok v) = answer.Value v
returned (Err c) = answer.Fault c

-- The value of the expression over the arguments, or its fault. It has no loop, so that any number
-- of turns serves. (PostgreSQL manual, PL/pgSQL: RETURN.)
abbrev pub answer_of_return : Expr → FunctionAnswer
answer_of_return e tables args turns = returned (value e (body tables args))

-- An expression of a function over so many tables: it reads the function's parameters and those
-- tables, and no aggregate stands outside a select's list.
pub record IsSource (tables params : ℕ) (e : Expr) : Type 0 where
  pub reads_own : fits (λ i. nat_lt i params) 0 tables e ≡ true
  pub single : has_aggregate e ≡ false

-- the template's tree, but for names
abbrev pub IsTemplate : ℕ → List Ty → Ty → Expr → Query → Type 0
IsTemplate tables params result e q = bare q ≡ bare (query_of_return tables params result e)

-- The first theorem of the compiler.
abbrev pub OneReturn : Type 0
OneReturn =
    (tables weight : ℕ) (params : List Ty) (result : Ty) (e : Expr) → tables < 2 ^ 64 → 0 < weight
    → IsSource tables (length params) e → (q : Query) → IsTemplate tables params result e q
    → IsEquivalent (λ T. length T ≡ tables) (λ args. AreTyped params args) weight (answer_of_return e) q
