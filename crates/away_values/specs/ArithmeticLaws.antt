-- What arithmetic on bigints gives, by whole numbers.
use Rattle.std.specs.Prelude.{
  ◌≡◌,
  ◌<◌,
  ℤ,
  pos,
  negsuc,
  ◌+ℤ◌,
  ◌-ℤ◌,
  ◌*ℤ◌,
  ◌≤ℤ◌,
  unsigned_abs,
  Ok,
  Err,
  codes,
}
use Rattle.away_values.specs.declared.values.Value.{Value}
use Rattle.away_values.specs.declared.values.Value.TheVariants as val
use Rattle.away_values.specs.declared.operators.IntOp.TheVariants as int
use Rattle.away_values.specs.Operators.{int_op}
use Rattle.away_values.specs.Results.{Or, class}

-- a whole number from -9223372036854775808 to 9223372036854775807
pub record IsBigint (n : ℤ) : Type 0 where
  pub from : negsuc 9223372036854775807 ≤ℤ n
  pub to : n ≤ℤ pos 9223372036854775807

-- the result is the whole number where that is a bigint, and 22003 where not
pub record IsExactly (n : ℤ) (result : Or Value) : Type 0 where
  pub within : IsBigint n → result ≡ Ok (val.Int n)
  pub beyond : (IsBigint n → ⊥) → result ≡ Err (class (codes "22003"))

pub record IsExact : Type 0 where
  pub sum : (a b : ℤ) → IsExactly (a +ℤ b) (int_op int.Add (val.Int a) (val.Int b))
  pub difference : (a b : ℤ) → IsExactly (a -ℤ b) (int_op int.Sub (val.Int a) (val.Int b))
  pub product : (a b : ℤ) → IsExactly (a *ℤ b) (int_op int.Mul (val.Int a) (val.Int b))

-- q and r are the quotient and the remainder of a by b: the quotient is rounded toward zero, so
-- that the remainder has the sign of a and is nearer to zero than b
pub record IsDivision (a b q r : ℤ) : Type 0 where
  pub whole : (q *ℤ b) +ℤ r ≡ a
  pub nearer : unsigned_abs r < unsigned_abs b
  pub not_below : pos 0 ≤ℤ a → pos 0 ≤ℤ r
  pub not_above : a ≤ℤ pos 0 → r ≤ℤ pos 0

pub record IsDivided : Type 0 where
  pub by_zero : (a : ℤ) → int_op int.Div (val.Int a) (val.Int (pos 0)) ≡ Err (class (codes "22012"))
  pub rest_by_zero : (a : ℤ) → int_op int.Rem (val.Int a) (val.Int (pos 0)) ≡ Err (class (codes "22012"))
  pub otherwise : (a b : ℤ) → (b ≡ pos 0 → ⊥) → (q : ℤ)
      × ((r : ℤ) × (IsDivision a b q r × IsExactly q (int_op int.Div (val.Int a) (val.Int b)) × IsExactly r (int_op int.Rem (val.Int a) (val.Int b))))
