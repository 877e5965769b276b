-- What an operation of 32 bits gives is an integer, or a fault.
use Rattle.std.proofs.Common.{◌≡◌, refl, ap, sym, ◌∙◌, subst, ℕ, ◌<◌, ◌^◌, Bool, true, false, nat_lt, if◌then◌else◌, ℤ, pos, negsuc, Ok, Err, codes, arith, inl, inr}
use Rattle.std.specs.Prelude.{◌+ℤ◌, ◌-ℤ◌, ◌*ℤ◌, neg_ℤ, int_div, int_rem}
use Rattle.std.specs.Ordering.{int_eq}
use Rattle.std.proofs.lemmas.Bool.{ltb-true, lt-ltb}
use Rattle.away_values.specs.declared.types.Ty.TheVariants.{Integer}
use Rattle.away_values.specs.declared.operators.IntOp.{IntOp}
use Rattle.away_values.specs.declared.operators.IntOp.TheVariants as int
use Rattle.away_values.specs.declared.operators.ChainOp.TheVariants as chain
use Rattle.away_values.specs.declared.values.Value.{Value}
use Rattle.away_values.specs.declared.values.Value.TheVariants as val
use Rattle.away_values.specs.Operators.{fits, fits_small, ranged, unless_zero, small, negated, cast, length_of}
use Rattle.away_values.specs.Results.{Or, and_then, class}
use Rattle.away_values.specs.Values.{HasType}
use Rattle.away_trees.specs.declared.queries.Expr.{Expr}
use Rattle.away_trees.specs.declared.queries.Expr.TheVariants as expr
use Rattle.away_trees.proofs.Equations as eq
use Rattle.sql_meaning.specs.Context.{Context, at}
use Rattle.sql_meaning.specs.Meaning.{meaning, value}
use Rattle.sql_meaning.specs.Parts.{pair}
use Rattle.elaboration_law.specs.Laws.{small_ranged, small_result, IsSmall, SmallValues}

-- 32 bits hold less than 64
below : (n : ℕ) → nat_lt n (2 ^ 31) ≡ true → nat_lt n (2 ^ 63) ≡ true
below n h = let lt : n < 2 ^ 31 = ltb-true n (2 ^ 31) h in lt-ltb n (2 ^ 63) (omega (arith, lt))

small_fits : (n : ℤ) → fits_small n ≡ true → fits n ≡ true
small_fits (pos n) h = below n h
small_fits (negsuc n) h = below n h

-- two tests of range are the narrower one
ranged_small : (n : ℤ) → and_then (ranged n) small ≡ small_ranged n
ranged_small n = by (fits_small n) refl
  where
    by : (b : Bool) → fits_small n ≡ b → and_then (ranged n) small ≡ small_ranged n
    by true h = ap (λ b. and_then (if b then Ok (val.Int n) else Err (class (codes "22003"))) small) (small_fits n h)
    by false h = wide (fits n) ∙ sym (ap (λ b. if b then Ok (val.Int n) else Err (class (codes "22003"))) h)
      where
        wide : (b : Bool) → and_then (if b then Ok (val.Int n) else Err (class (codes "22003"))) small ≡ Err (class (codes "22003"))
        wide true = ap (λ b. if b then Ok (val.Int n) else Err (class (codes "22003"))) h
        wide false = refl

divided : (b : ℤ) (m n : Or Value) → and_then m small ≡ n → and_then (unless_zero b m) small ≡ unless_zero b n
divided b m n h = by (int_eq b (pos 0))
  where
    by : (z : Bool) → and_then (if z then Err (class (codes "22012")) else m) small ≡ (if z then Err (class (codes "22012")) else n)
    by true = refl
    by false = h

exact : (op : IntOp) (a b : ℤ) → pair (chain.Small op) (val.Int a) (Ok (val.Int b)) ≡ small_result op a b
exact int.Add a b = ranged_small (a +ℤ b)
exact int.Sub a b = ranged_small (a -ℤ b)
exact int.Mul a b = ranged_small (a *ℤ b)
exact int.Div a b = divided b (ranged (int_div a b)) (small_ranged (int_div a b)) (ranged_small (int_div a b))
exact int.Rem a b = divided b (ranged (int_rem a b)) (small_ranged (int_rem a b)) (ranged_small (int_rem a b))

-- ---- in range

integer_type : (n : ℤ) → fits_small n ≡ true → HasType (val.Int n) Integer
integer_type n h = h

small_ranged_is : (n : ℤ) → IsSmall (small_ranged n)
small_ranged_is n = by (fits_small n) refl
  where
    by : (b : Bool) → fits_small n ≡ b → IsSmall (if b then Ok (val.Int n) else Err (class (codes "22003")))
    by true h = h
    by false h = inl refl

unless_zero_is : (b : ℤ) (m : Or Value) → IsSmall m → IsSmall (unless_zero b m)
unless_zero_is b m h = by (int_eq b (pos 0))
  where
    by : (z : Bool) → IsSmall (if z then Err (class (codes "22012")) else m)
    by true = inr refl
    by false = h

result_is : (op : IntOp) (a b : ℤ) → IsSmall (small_result op a b)
result_is int.Add a b = small_ranged_is (a +ℤ b)
result_is int.Sub a b = small_ranged_is (a -ℤ b)
result_is int.Mul a b = small_ranged_is (a *ℤ b)
result_is int.Div a b = unless_zero_is b (small_ranged (int_div a b)) (small_ranged_is (int_div a b))
result_is int.Rem a b = unless_zero_is b (small_ranged (int_rem a b)) (small_ranged_is (int_rem a b))

small_is : (v : Value) → IsSmall (small v)
small_is (val.Int n) = small_ranged_is n
small_is val.Null = tt
small_is (val.Bool b) = tt
small_is (val.Text t) = tt

pair_is : (op : IntOp) (a b : Value) → IsSmall (pair (chain.Small op) a (Ok b))
pair_is op (val.Int a) (val.Int b) = subst IsSmall (sym (exact op a b)) (result_is op a b)
pair_is op (val.Int a) val.Null = tt
pair_is op (val.Int a) (val.Bool b) = tt
pair_is op (val.Int a) (val.Text b) = tt
pair_is op val.Null b = tt
pair_is op (val.Bool a) b = tt
pair_is op (val.Text a) b = tt

minus_is : (v : Value) → IsSmall (and_then (negated v) small)
minus_is (val.Int a) = subst IsSmall (sym (ranged_small (neg_ℤ a))) (small_ranged_is (neg_ℤ a))
minus_is val.Null = tt
minus_is (val.Bool b) = tt
minus_is (val.Text t) = tt

minus_value : (e : Expr) (cx : Context) (v : Value) → value e cx ≡ Ok v → value (expr.NegSmall e) cx ≡ and_then (negated v) small
minus_value e cx v h = ap (λ m. m.value cx) (eq.of_negsmall meaning e) ∙ ap (λ o. and_then o (λ v. and_then (negated v) small)) h

cast_value : (e : Expr) (cx : Context) (v : Value) → value e cx ≡ Ok v → value (expr.Cast e Integer) cx ≡ small v
cast_value e cx v h = ap (λ m. m.value cx) (eq.of_cast meaning e Integer) ∙ ap (λ o. and_then o (cast Integer)) h

pub small_values : SmallValues
small_values = record {
  exact = exact;
  minus = λ a e cx h. minus_value e cx (val.Int a) h ∙ ranged_small (neg_ℤ a);
  ranged = pair_is;
  minus_ranged = λ e cx v h. subst IsSmall (sym (minus_value e cx v h)) (minus_is v);
  cast_ranged = λ e cx v h. subst IsSmall (sym (cast_value e cx v h)) (small_is v);
  length_ranged = λ vs. small_is (length_of (at vs 0));
}
