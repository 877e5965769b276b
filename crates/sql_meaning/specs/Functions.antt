-- The functions and the aggregates that a call may name.
use Rattle.std.specs.Prelude.{
  ℕ,
  Bool,
  true,
  false,
  if◌then◌else◌,
  pos,
  ◌+ℤ◌,
  List,
  [],
  ◌∷◌,
  length,
  fold,
  Ok,
  codes,
  bytes_eq,
}
use Rattle.std.specs.List.{list_any, list_all}
use Rattle.away_values.specs.declared.values.Value.{Value}
use Rattle.away_values.specs.declared.values.Value.TheVariants as val
use Rattle.away_values.specs.Results.{Or}
use Rattle.away_values.specs.Operators.{ranged, is_true, length_of, small, substr, extreme}
use Rattle.sql_meaning.specs.Context.{at}

pub data Function : Type 0 where
  Length Substr Coalesce Greatest Least Count Min Max Sum BoolAnd BoolOr Unknown : Function

abbrev pub named_by : List (List ℕ × Function) → List ℕ → Function
named_by [] name = Unknown
named_by (f ∷ fs) name = if bytes_eq f.0 name then f.1 else named_by fs name

-- no checked tree calls another
abbrev pub function : List ℕ → Function
function =
    named_by ((codes "length", Length) ∷ (codes "substr", Substr) ∷ (codes "coalesce", Coalesce)
    ∷ (codes "greatest", Greatest) ∷ (codes "least", Least) ∷ (codes "count", Count) ∷ (codes "min", Min)
    ∷ (codes "max", Max) ∷ (codes "sum", Sum) ∷ (codes "bool_and", BoolAnd) ∷ (codes "bool_or", BoolOr) ∷ [])

abbrev pub is_aggregate : Function → Bool
is_aggregate Count = true
is_aggregate Min = true
is_aggregate Max = true
is_aggregate Sum = true
is_aggregate BoolAnd = true
is_aggregate BoolOr = true
is_aggregate _ = false

-- whole numbers without bounds
abbrev pub added : Value → Value → Value
added (val.Int a) (val.Int b) = val.Int (a +ℤ b)
added val.Null (val.Int b) = val.Int b
added a _ = a

-- a sum is tested for its range once, at its end
abbrev pub in_range : Value → Or Value
in_range (val.Int n) = ranged n
in_range v = Ok v

-- Over the values that aren't NULL: their number, the least, the greatest, the sum, whether all are
-- true, whether one is. All but the number are NULL over no value. (PostgreSQL manual, Aggregate
-- Functions. That a sum which leaves 64 bits on the way and comes back is no fault, and that its
-- type is bigint, are our own.)
abbrev pub aggregate : Function → List Value → Or Value
aggregate Count vs = Ok (val.Int (pos (length vs)))
aggregate Min vs = Ok (fold (extreme false) val.Null vs)
aggregate Max vs = Ok (fold (extreme true) val.Null vs)
aggregate Sum vs = in_range (fold added val.Null vs)
aggregate BoolAnd [] = Ok val.Null
aggregate BoolAnd (v ∷ vs) = Ok (val.Bool (list_all is_true (v ∷ vs)))
aggregate BoolOr [] = Ok val.Null
aggregate BoolOr (v ∷ vs) = Ok (val.Bool (list_any is_true (v ∷ vs)))
aggregate _ vs = Ok val.Null

-- Of values that are all there: `length`, which is an integer, `substr`, GREATEST and LEAST.
-- (PostgreSQL manual, String Functions and Operators; Conditional Expressions.)
abbrev pub scalar : Function → List Value → Or Value
scalar Length vs = small (length_of (at vs 0))
scalar Substr vs = substr (at vs 0) (at vs 1) (at vs 2)
scalar Greatest vs = Ok (fold (extreme true) val.Null vs)
scalar Least vs = Ok (fold (extreme false) val.Null vs)
scalar _ vs = Ok val.Null
