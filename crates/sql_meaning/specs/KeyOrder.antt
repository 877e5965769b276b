-- A total order of all values: NULL last, else by kind, numbers, truth values (false first), texts
-- by code point. On the values of one type it is the order of the operators. (PostgreSQL manual,
-- Sorting Rows. That values of several types are in an order too is our own.)
use Rattle.std.specs.Prelude.{ℕ, ℤ, pos, Bool, true, false, not, ◌&&◌, ◌||◌, List, [], ◌∷◌, drop}
use Rattle.std.specs.Ordering.{nat_cmp, int_cmp, ordering_then}
use Rattle.std.specs.Cmp.Lexicographic.{slice_cmp}
use Rattle.std.specs.declared.cmp.Ordering.{Ordering}
use Rattle.std.specs.declared.cmp.Ordering.TheVariants.{Equal}
use Rattle.away_values.specs.declared.values.Value.{Value}
use Rattle.away_values.specs.declared.values.Value.TheVariants as val
use Rattle.away_values.specs.Operators.{less, is_null}
use Rattle.sql_meaning.specs.Context.{at}

-- NULL is the last kind
abbrev pub kind : Value → ℕ
kind (val.Int n) = 0
kind (val.Bool b) = 1
kind (val.Text t) = 2
kind val.Null = 3

abbrev pub number : Value → ℤ
number (val.Int n) = n
number _ = pos 0

abbrev pub truth : Value → ℕ
truth (val.Bool true) = 1
truth _ = 0

abbrev pub letters : Value → List ℕ
letters (val.Text t) = t
letters _ = []

abbrev pub value_cmp : Value → Value → Ordering
value_cmp a b =
    ordering_then (nat_cmp (kind a) (kind b))
    (ordering_then (int_cmp (number a) (number b)) (ordering_then (nat_cmp (truth a) (truth b)) (slice_cmp nat_cmp (letters a) (letters b))))

-- of a key that rises, or of one that falls
abbrev pub directed : Bool → Value → Value → Ordering
directed false a b = value_cmp a b
directed true a b = value_cmp b a

-- rows of keys by the directions of the keys: the first that tells them apart decides
abbrev pub keys_cmp : List Bool → List Value → List Value → Ordering
keys_cmp [] as_ bs = Equal
keys_cmp (d ∷ ds) as_ bs = ordering_then (directed d (at as_ 0) (at bs 0)) (keys_cmp ds (drop 1 as_) (drop 1 bs))

-- what the manual says of two values of one type: NULL comes last where ascending and first where
-- descending (PostgreSQL manual, Sorting Rows)
abbrev pub precedes : Bool → Value → Value → Bool
precedes false a b = less a b || (not (is_null a) && is_null b)
precedes true a b = less b a || (is_null a && not (is_null b))
