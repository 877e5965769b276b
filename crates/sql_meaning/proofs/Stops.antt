-- An operator that stops gives what it would give of all its operands.
use Rattle.std.proofs.Common.{◌≡◌, refl, sym, Bool, true, false, ◌&&◌, ◌||◌, if◌then◌else◌, List, [], ◌∷◌, map, Ok}
use Rattle.std.specs.List.{list_any}
use Rattle.away_values.specs.declared.values.Value.{Value}
use Rattle.away_values.specs.declared.values.Value.TheVariants as val
use Rattle.away_values.specs.declared.operators.ChainOp.TheVariants as chain
use Rattle.away_values.specs.declared.operators.CmpOp.TheVariants as cmp
use Rattle.away_values.specs.Operators.{compare, conjunction, disjunction, is_true, is_false, is_null}
use Rattle.away_values.specs.Results.{Or}
use Rattle.sql_meaning.specs.Decided.{is_among, is_between}
use Rattle.sql_meaning.specs.Parts.{pair, between, among}

abbrev choice : Bool → Or Value → Or Value → Or Value
choice c x y = if c then x else y

-- a false operand decides AND, and a true one OR
false_decides : (c : Bool) (a b : Value) → is_false a ≡ c → choice c (Ok (val.Bool false)) (Ok (conjunction a b)) ≡ Ok (conjunction a b)
false_decides true a b h = λ i. Ok (if sym h i || is_false b then val.Bool false else (if is_true a && is_true b then val.Bool true else val.Null))
false_decides false a b h = refl

true_decides : (c : Bool) (a b : Value) → is_true a ≡ c → choice c (Ok (val.Bool true)) (Ok (disjunction a b)) ≡ Ok (disjunction a b)
true_decides true a b h = λ i. Ok (if sym h i || is_true b then val.Bool true else (if is_false a && is_false b then val.Bool false else val.Null))
true_decides false a b h = refl

pub and_is : (a b : Value) → pair chain.And a (Ok b) ≡ Ok (conjunction a b)
and_is a b = false_decides (is_false a) a b refl

pub or_is : (a b : Value) → pair chain.Or a (Ok b) ≡ Ok (disjunction a b)
or_is a b = true_decides (is_true a) a b refl

pub between_is : (v low high : Value) → between v low (Ok high) ≡ Ok (is_between v low high)
between_is v low high = false_decides (is_false (compare cmp.Ge v low)) (compare cmp.Ge v low) (compare cmp.Le v high) refl

-- ---- IN

-- what the comparisons before have left, and what is still to come
abbrev left_with : Bool → Bool → Bool → Value
left_with before equal unknown = if equal then val.Bool true else (if before || unknown then val.Null else val.Bool false)

abbrev so_far : Bool → Value
so_far before = if before then val.Null else val.Bool false

abbrev equal : Value → Value → Bool
equal v w = is_true (compare cmp.Eq v w)

abbrev unknown : Value → Value → Bool
unknown v w = is_null (compare cmp.Eq v w)

step : (e u before : Bool) (rest_equal rest_unknown : Bool) (rest : Value → Or Value) → ((before : Bool) → rest (so_far before) ≡ Ok (left_with before rest_equal rest_unknown)) → choice e (Ok (val.Bool true)) (rest (if u then val.Null else so_far before)) ≡ Ok (left_with before (e || rest_equal) (u || rest_unknown))
step true u before re ru rest go = refl
step false true true re ru rest go = go true
step false true false re ru rest go = go true
step false false true re ru rest go = go true
step false false false re ru rest go = go false

among_from : (v : Value) (ws : List Value) (before : Bool) → among v (map (λ w. Ok w) ws) (so_far before) ≡ Ok (left_with before (list_any (equal v) ws) (list_any (unknown v) ws))
among_from v [] true = refl
among_from v [] false = refl
among_from v (w ∷ ws) before = step (equal v w) (unknown v w) before (list_any (equal v) ws) (list_any (unknown v) ws) (among v (map (λ w. Ok w) ws)) (among_from v ws)

pub among_is : (v : Value) (ws : List Value) → among v (map (λ w. Ok w) ws) (val.Bool false) ≡ Ok (is_among v ws)
among_is v ws = among_from v ws false
