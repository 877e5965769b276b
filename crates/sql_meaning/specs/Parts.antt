-- The parts of an expression that are evaluated one after the other, where an operator stops as
-- soon as it is decided.
use Rattle.std.specs.Prelude.{Bool, true, false, if◌then◌else◌, List, [], ◌∷◌, Ok, Err, codes}
use Rattle.away_values.specs.declared.values.Value.{Value}
use Rattle.away_values.specs.declared.values.Value.TheVariants as val
use Rattle.away_values.specs.declared.operators.ChainOp.{ChainOp}
use Rattle.away_values.specs.declared.operators.ChainOp.TheVariants as chain
use Rattle.away_values.specs.declared.operators.CmpOp.TheVariants as cmp
use Rattle.away_values.specs.Results.{Or, and_then, mapped, class}
use Rattle.away_values.specs.Operators.{
  int_op,
  small,
  compare,
  is_true,
  is_false,
  is_null,
  conjunction,
  disjunction,
  concat,
}
use Rattle.sql_meaning.specs.Context.{Rows, at}

-- The left operand's value and the right operand's answer. A false operand decides AND and a true
-- one decides OR, so that the right one isn't looked at; every other operator takes both.
-- (PostgreSQL manual, Logical Operators, Mathematical Functions and Operators, String Functions and
-- Operators. The order from left to right and the stop are our own: the manual leaves the order of
-- evaluation open.)
abbrev pub pair : ChainOp → Value → Or Value → Or Value
pair chain.And a right = if is_false a then Ok (val.Bool false) else mapped (conjunction a) right
pair chain.Or a right = if is_true a then Ok (val.Bool true) else mapped (disjunction a) right
pair chain.Concat a right = and_then right (concat a)
pair (chain.Int op) a right = and_then right (int_op op a)
pair (chain.Small op) a right = and_then right (λ b. and_then (int_op op a b) small)

-- A chain of operators of one level, pair by pair from its left end. (PostgreSQL manual, Operator
-- Precedence: these operators are left-associative.)
abbrev pub chained : List (ChainOp × Or Value) → Value → Or Value
chained [] a = Ok a
chained (link ∷ more) a = and_then (pair link.0 a link.1) (chained more)

-- The value and the lower end, and what the upper end answers: AND of two comparisons, which a
-- false first one decides. (PostgreSQL manual, Comparison Functions and Operators: BETWEEN. The
-- stop is our own.)
abbrev pub between : Value → Value → Or Value → Or Value
between v low high =
    if is_false (compare cmp.Ge v low) then Ok (val.Bool false) else mapped (λ h. conjunction (compare cmp.Ge v low) (compare cmp.Le v h)) high

-- Whether the value is among these answers: true at the first equal one, else NULL where a
-- comparison was NULL, else false. `so_far` is what the comparisons before have left. (PostgreSQL
-- manual, Row and Array Comparisons: IN. The stop is our own.)
abbrev pub among : Value → List (Or Value) → Value → Or Value
among v [] so_far = Ok so_far
among v (o ∷ os) so_far =
    and_then o (λ w. if is_true (compare cmp.Eq v w) then Ok (val.Bool true) else among v os
    (if is_null (compare cmp.Eq v w) then val.Null else so_far))

-- What stands behind the first condition that is true, else what stands behind ELSE. (PostgreSQL
-- manual, Conditional Expressions: CASE. That no later part is evaluated, aggregates included, is
-- our own.)
abbrev pub chosen : Or Value → List (Or Value × Or Value) → Or Value
chosen other [] = other
chosen other (arm ∷ more) = and_then arm.0 (λ b. if is_true b then arm.1 else chosen other more)

-- The first value that isn't NULL. (PostgreSQL manual, Conditional Expressions: COALESCE. The stop
-- is our own.)
abbrev pub first_known : List (Or Value) → Or Value
first_known [] = Ok val.Null
first_known (o ∷ os) = and_then o (λ v. if is_null v then first_known os else Ok v)

-- The value of a scalar subquery with these rows: NULL where there is none, and a fault where there
-- are two or more. (PostgreSQL manual, Scalar Subqueries; class cardinality_violation of the
-- appendix Error Codes.)
abbrev pub only : Rows → Or Value
only [] = Ok val.Null
only (row ∷ []) = Ok (at row 0)
only (row ∷ other ∷ more) = Err (class (codes "21000"))

-- Whether EXISTS is true. (PostgreSQL manual, Subquery Expressions: EXISTS.)
abbrev pub has_row : Rows → Bool
has_row [] = false
has_row (row ∷ more) = true
