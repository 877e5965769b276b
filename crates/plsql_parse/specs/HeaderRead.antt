-- What the parts of the reader of a function's header answer.
use Rattle.std.specs.Prelude.{◌≡◌, ℕ, Bool, true, false, List, Result, Ok, Err}
use Rattle.away_grammar.specs.declared.grammar.Attribute.{Attribute}
use Rattle.away_trees.specs.declared.statements.Function.{Function}
use Rattle.away_trees.specs.declared.statements.Stmt.{Stmt}
use Rattle.away_grammar.specs.FunctionGrammar.{
  function,
  is_language,
  is_body,
  is_volatility,
  is_null_input,
  is_leakproof,
  is_parallel,
  is_cost,
}
use Rattle.away_grammar.specs.Terminals.{Terminal}
use Rattle.sql_text.specs.Plans.{Gives, tail}
use Rattle.sql_text.specs.declared.refusal.Refusal.{Refusal}
use Rattle.sql_text.specs.declared.refusal.Refusal.TheVariants.{NoTree}
use Rattle.plsql_parse.specs.declared.attributes.Group.{Group}
use Rattle.plsql_parse.specs.declared.attributes.Group.TheVariants as group
use Rattle.plsql_parse.specs.declared.headers.Header.{Header}
use Rattle.plsql_parse.specs.Plans.{any_plan}
use Rattle.plsql_parse.specs.Sorts.{AnyTree, PartPlan, part, begins_word}

-- ---- words

-- the word stood next and was taken, or it doesn't stand there
abbrev pub WordExpected : List ℕ → List Terminal → Result (Unit {0}) Refusal → List Terminal → Type 0
WordExpected w old (Ok x) new = (begins_word w old ≡ true) × (new ≡ tail old)
WordExpected w old (Err e) new = (e ≡ NoTree) × (begins_word w old ≡ false)

-- ---- attributes

-- the attribute is of the group
abbrev pub of_group : Group → Attribute → Bool
of_group group.Language = is_language
of_group group.Body = is_body
of_group group.Volatility = is_volatility
of_group group.NullInput = is_null_input
of_group group.Leakproof = is_leakproof
of_group group.Parallel = is_parallel
of_group group.Cost = is_cost

-- ---- headers

-- the function of a header and a body
abbrev pub around : Header → Stmt → Function
around h inside = record { name = h.name; strict = h.strict; params = h.params; result = h.result; body = inside }

abbrev pub answered : Stmt → Result Header Refusal → Result Function Refusal
answered inside (Ok h) = Ok (around h inside)
answered inside (Err e) = Err e

-- The plan gives the function of the header, around whichever body it is for.
abbrev pub HeaderRead : ((inside : Stmt) → PartPlan (function inside)) → List Terminal → Result Header Refusal → List Terminal → Type 0
HeaderRead plan old result new = (inside : Stmt) → Gives AnyTree any_plan (part (function inside)) (plan inside) old (answered inside result) new
