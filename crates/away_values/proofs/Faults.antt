-- The faults of the operators are classes.
use Rattle.std.proofs.Common.{refl, ℕ, ℤ, Bool, true, false, List, [], ◌∷◌, pos, ◌++◌, ◌+ℤ◌, ◌-ℤ◌, neg_ℤ}
use Rattle.std.specs.Prelude.{if◌then◌else◌, int_lt, int_div, int_rem, ◌*ℤ◌, nat_le, codes, Ok, Err}
use Rattle.std.specs.List.{sum_by}
use Rattle.std.specs.Ordering.{int_eq}
use Rattle.away_values.specs.declared.values.Value.{Value}
use Rattle.away_values.specs.declared.values.Value.TheVariants as val
use Rattle.away_values.specs.declared.types.Ty.{Ty}
use Rattle.away_values.specs.declared.types.Ty.TheVariants as ty
use Rattle.away_values.specs.declared.operators.IntOp.{IntOp}
use Rattle.away_values.specs.declared.operators.IntOp.TheVariants as int
use Rattle.away_values.specs.declared.operators.TextOp.{TextOp}
use Rattle.away_values.specs.declared.operators.TextOp.TheVariants as text
use Rattle.away_values.specs.Classes.{FaultsByClass}
use Rattle.away_values.specs.Operators.{bytes_of, cast, concat, fits, fits_small, int_op, int_result, length_of, negated, part, ranged, small, text_of_value, substr, text_op, text_within, unless_zero}
use Rattle.away_values.specs.Results.{Or, class}

-- a choice between two that give a value or a class
chosen : (b : Bool) (x y : Or Value) → FaultsByClass x → FaultsByClass y → FaultsByClass (if b then x else y)
chosen true x y hx hy = hx
chosen false x y hx hy = hy

in_range : (n : ℤ) → FaultsByClass (ranged n)
in_range n = chosen (fits n) (Ok (val.Int n)) (Err (class (codes "22003"))) tt refl

no_zero : (b : ℤ) (x : Or Value) → FaultsByClass x → FaultsByClass (unless_zero b x)
no_zero b x h = chosen (int_eq b (pos 0)) (Err (class (codes "22012"))) x refl h

result : (op : IntOp) (a b : ℤ) → FaultsByClass (int_result op a b)
result int.Add a b = in_range (a +ℤ b)
result int.Sub a b = in_range (a -ℤ b)
result int.Mul a b = in_range (a *ℤ b)
result int.Div a b = no_zero b (ranged (int_div a b)) (in_range (int_div a b))
result int.Rem a b = no_zero b (ranged (int_rem a b)) (in_range (int_rem a b))

pub of_arithmetic : (op : IntOp) (a b : Value) → FaultsByClass (int_op op a b)
of_arithmetic op (val.Int a) (val.Int b) = result op a b
of_arithmetic op _ _ = tt

pub of_minus : (a : Value) → FaultsByClass (negated a)
of_minus (val.Int a) = in_range (neg_ℤ a)
of_minus _ = tt

pub of_small : (a : Value) → FaultsByClass (small a)
of_small (val.Int n) = chosen (fits_small n) (Ok (val.Int n)) (Err (class (codes "22003"))) tt refl
of_small _ = tt

pub of_cast : (t : Ty) (a : Value) → FaultsByClass (cast t a)
of_cast ty.Integer a = of_small a
of_cast ty.Text val.Null = tt
of_cast ty.Text (val.Int n) = tt
of_cast ty.Text (val.Bool b) = tt
of_cast ty.Text (val.Text t) = tt
of_cast _ a = tt

within : (t : List ℕ) → FaultsByClass (text_within t)
within t = chosen (nat_le (sum_by bytes_of t) 1048576) (Ok (val.Text t)) (Err (class (codes "54000"))) tt refl

of_concat : (a b : Value) → FaultsByClass (concat a b)
of_concat val.Null b = tt
of_concat a val.Null = tt
of_concat a b = within (text_of_value a ++ text_of_value b)

of_substr : (t p n : Value) → FaultsByClass (substr t p n)
of_substr (val.Text t) (val.Int p) (val.Int n) = chosen (int_lt n (pos 0)) (Err (class (codes "22011"))) (Ok (val.Text (part p (p +ℤ n) (pos 1) t))) refl tt
of_substr _ _ _ = tt

pub of_texts : (op : TextOp) (args : List Value) → FaultsByClass (text_op op args)
of_texts text.Concat (a ∷ b ∷ []) = of_concat a b
of_texts text.Length (t ∷ []) = of_small (length_of t)
of_texts text.Substr (t ∷ p ∷ n ∷ []) = of_substr t p n
of_texts text.ToText (v ∷ []) = of_cast ty.Text v
of_texts _ _ = tt
