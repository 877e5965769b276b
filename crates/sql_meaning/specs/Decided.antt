-- What IN and BETWEEN are, where nothing faults: by all comparisons at once.
use Rattle.std.specs.Prelude.{true, false, if◌then◌else◌, List}
use Rattle.std.specs.List.{list_any}
use Rattle.away_values.specs.declared.values.Value.{Value}
use Rattle.away_values.specs.declared.values.Value.TheVariants as val
use Rattle.away_values.specs.declared.operators.CmpOp.TheVariants as cmp
use Rattle.away_values.specs.Operators.{compare, conjunction, is_true, is_null}

-- true where a comparison is true, otherwise NULL where one is NULL, otherwise false (PostgreSQL
-- manual, Row and Array Comparisons)
abbrev pub is_among : Value → List Value → Value
is_among v ws =
    if list_any (λ w. is_true (compare cmp.Eq v w)) ws then val.Bool true
    else (if list_any (λ w. is_null (compare cmp.Eq v w)) ws then val.Null else val.Bool false)

-- at least the one and at most the other (PostgreSQL manual, Comparison Functions and Operators)
abbrev pub is_between : Value → Value → Value → Value
is_between v low high = conjunction (compare cmp.Ge v low) (compare cmp.Le v high)
