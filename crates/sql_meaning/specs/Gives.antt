-- What a call gives whose meaning is known, and the meanings of the parts of a node, as words that
-- proofs look into by their equations alone.
use Rattle.std.specs.Prelude.{
  Bool,
  false,
  if◌then◌else◌,
  List,
  [],
  ◌∷◌,
  ◌++◌,
  map,
  Option,
  Some,
  None,
  Ok,
  Result,
}
use Rattle.away_values.specs.declared.values.Value.{Value}
use Rattle.away_values.specs.declared.values.Value.TheVariants as val
use Rattle.away_values.specs.declared.errors.OpError.{OpError}
use Rattle.away_values.specs.declared.operators.ChainOp.{ChainOp}
use Rattle.away_values.specs.declared.operators.ChainOp.TheVariants as chain
use Rattle.away_trees.specs.declared.queries.Expr.{Expr}
use Rattle.away_trees.specs.declared.queries.Query.{Query}
use Rattle.away_values.specs.Results.{Or, Answers, and_then, each, each_joined, mapped}
use Rattle.away_values.specs.Operators.{is_true, is_false}
use Rattle.sql_meaning.specs.Context.{Rows, Frame, Context, at_row}
use Rattle.sql_meaning.specs.Meaning.{value, rows_of_query}
use Rattle.sql_meaning.specs.Parts.{chained, among, first_known}

unfoldable pub Gives : {A : Type 0} → Or A → Result A OpError → Type 0
Gives meant r = Answers meant r

unfoldable pub value_of : Context → Expr → Or Value
value_of cx e = value e cx

unfoldable pub query_rows : Context → Query → Or Rows
query_rows cx q = rows_of_query q cx

-- ---- lists

-- what is done already, before what is left
unfoldable pub after : {A : Type 0} → List A → Or (List A) → Or (List A)
after done m = mapped (λ ys. done ++ ys) m

unfoldable pub each_of : {A B : Type 0} → (A → Or B) → List A → Or (List B)
each_of f xs = each f xs

unfoldable pub joined_of : {A B : Type 0} → (A → Or (List B)) → List A → Or (List B)
joined_of f xs = each_joined f xs

-- ---- the parts of an expression that stop where it is decided

unfoldable pub chain_of : Context → List (ChainOp × Expr) → Value → Or Value
chain_of cx links = chained (map (λ l. (l.0, value l.1 cx)) links)

unfoldable pub among_of : Context → Value → List Expr → Value → Or Value
among_of cx v choices = among v (map (λ c. value c cx) choices)

unfoldable pub known_of : Context → List Expr → Or Value
known_of cx es = first_known (map (λ e. value e cx) es)

unfoldable pub other_of : Context → Option Expr → Or Value
other_of cx None = Ok val.Null
other_of cx (Some e) = value e cx

-- whether the left operand decides, so that the right one isn't looked at
abbrev pub decided_by : ChainOp → Value → Bool
decided_by chain.And a = is_false a
decided_by chain.Or a = is_true a
decided_by _ a = false

-- what stands behind the first condition that is true
unfoldable pub arms_of : Context → List (Expr × Expr) → Or (Option Value)
arms_of cx [] = Ok None
arms_of cx (arm ∷ arms) = and_then (value arm.0 cx) (λ b. if is_true b then mapped (λ v. Some v) (value arm.1 cx) else arms_of cx arms)

-- a value that was found, or what stands behind ELSE
abbrev pub found_or : Or Value → Option Value → Or Value
found_or other None = other
found_or other (Some v) = Ok v

-- the arguments of an aggregate at a row of its group
unfoldable pub arguments_at : Context → List Expr → Frame → Or (List Value)
arguments_at cx es frame = each_of (value_of (at_row frame cx)) es
