-- What each operator gives, as the PostgreSQL manual says it. A text is its list of code points.
--
-- Operands of types that an operator doesn't take never stand in a checked tree. For these the
-- definitions give NULL, or what is shortest to say.
use Rattle.std.specs.Prelude.{
  ℕ,
  ◌^◌,
  Bool,
  true,
  false,
  not,
  ◌&&◌,
  ◌||◌,
  if◌then◌else◌,
  ◌==◌,
  nat_lt,
  nat_le,
  ℤ,
  pos,
  negsuc,
  ◌+ℤ◌,
  ◌-ℤ◌,
  ◌*ℤ◌,
  neg_ℤ,
  int_lt,
  int_div,
  int_rem,
  List,
  [],
  ◌∷◌,
  ◌++◌,
  length,
  sum_by,
  Ok,
  Err,
  codes,
}
use Rattle.std.specs.Fmt.{signed_decimal}
use Rattle.std.specs.Ordering.{int_eq}
use Rattle.away_values.specs.declared.values.Value.{Value}
use Rattle.away_values.specs.declared.values.Value.TheVariants as val
use Rattle.away_values.specs.declared.types.Ty.{Ty}
use Rattle.away_values.specs.declared.types.Ty.TheVariants as ty
use Rattle.away_values.specs.declared.operators.IntOp.{IntOp}
use Rattle.away_values.specs.declared.operators.IntOp.TheVariants as int
use Rattle.away_values.specs.declared.operators.CmpOp.{CmpOp}
use Rattle.away_values.specs.declared.operators.CmpOp.TheVariants as cmp
use Rattle.away_values.specs.declared.operators.TextOp.{TextOp}
use Rattle.away_values.specs.declared.operators.TextOp.TheVariants as text
use Rattle.away_values.specs.declared.operators.IsTest.{IsTest}
use Rattle.away_values.specs.declared.operators.IsTest.TheVariants as test
use Rattle.away_values.specs.Results.{Or, class}
use Rattle.away_values.specs.Words.{longest_text}

-- ---- arithmetic (Mathematical Functions and Operators; the classes are those of the appendix
-- PostgreSQL Error Codes)

-- from -2^63 to 2^63 - 1, the range of bigint (Numeric Types, Integer Types)
abbrev pub fits : ℤ → Bool
fits (pos n) = nat_lt n (2 ^ 63)
fits (negsuc n) = nat_lt n (2 ^ 63)

-- the one test of range: 22003, numeric_value_out_of_range
abbrev pub ranged : ℤ → Or Value
ranged n = if fits n then Ok (val.Int n) else Err (class (codes "22003"))

-- 22012, division_by_zero
abbrev pub unless_zero : ℤ → Or Value → Or Value
unless_zero b other = if int_eq b (pos 0) then Err (class (codes "22012")) else other

-- The operation on whole numbers, and then the test of range. Division rounds toward zero, and the
-- remainder has the sign of the dividend: so the least bigint divided by -1 is out of range, and
-- its remainder by -1 is 0.
abbrev pub int_result : IntOp → ℤ → ℤ → Or Value
int_result int.Add a b = ranged (a +ℤ b)
int_result int.Sub a b = ranged (a -ℤ b)
int_result int.Mul a b = ranged (a *ℤ b)
int_result int.Div a b = unless_zero b (ranged (int_div a b))
int_result int.Rem a b = unless_zero b (ranged (int_rem a b))

-- A NULL operand gives NULL. It is looked at before the divisor is: NULL / 0 is NULL.
abbrev pub int_op : IntOp → Value → Value → Or Value
int_op op (val.Int a) (val.Int b) = int_result op a b
int_op op _ _ = Ok val.Null

-- unary minus
abbrev pub negated : Value → Or Value
negated (val.Int a) = ranged (neg_ℤ a)
negated _ = Ok val.Null

-- ---- comparison (Comparison Functions and Operators)

-- Texts compare by code point, and a text comes before its own continuations. That is our own
-- choice: PostgreSQL goes by the collation, and this is what its collation C does with UTF-8.
abbrev pub text_less : List ℕ → List ℕ → Bool
text_less _ [] = false
text_less [] (b ∷ bs) = true
text_less (a ∷ as_) (b ∷ bs) = nat_lt a b || (a == b && text_less as_ bs)

-- The order of the values of one type that are there: numbers as they are, false before true (Data
-- Types, Boolean Type), texts by code point.
abbrev pub less : Value → Value → Bool
less (val.Int a) (val.Int b) = int_lt a b
less (val.Bool a) (val.Bool b) = not a && b
less (val.Text a) (val.Text b) = text_less a b
less _ _ = false

abbrev pub compared : CmpOp → Value → Value → Bool
compared cmp.Eq a b = not (less a b) && not (less b a)
compared cmp.Ne a b = less a b || less b a
compared cmp.Lt a b = less a b
compared cmp.Le a b = not (less b a)
compared cmp.Gt a b = less b a
compared cmp.Ge a b = not (less a b)

-- NULL where an operand is NULL
abbrev pub compare : CmpOp → Value → Value → Value
compare op val.Null b = val.Null
compare op a val.Null = val.Null
compare op a b = val.Bool (compared op a b)

-- ---- truth (Logical Operators: three values, of which NULL is the unknown one)

abbrev pub is_true : Value → Bool
is_true (val.Bool true) = true
is_true _ = false

abbrev pub is_false : Value → Bool
is_false (val.Bool false) = true
is_false _ = false

abbrev pub is_null : Value → Bool
is_null val.Null = true
is_null _ = false

-- NOT
abbrev pub negation : Value → Value
negation (val.Bool b) = val.Bool (not b)
negation _ = val.Null

-- the negation where NOT is written
abbrev pub negation_if : Bool → Value → Value
negation_if b v = if b then negation v else v

-- AND: false where an operand is, true where both are, and otherwise NULL
abbrev pub conjunction : Value → Value → Value
conjunction a b = if is_false a || is_false b then val.Bool false else (if is_true a && is_true b then val.Bool true else val.Null)

-- OR: true where an operand is, false where both are, and otherwise NULL
abbrev pub disjunction : Value → Value → Value
disjunction a b = if is_true a || is_true b then val.Bool true else (if is_false a && is_false b then val.Bool false else val.Null)

-- IS NULL, IS TRUE, IS FALSE, which are never NULL (Comparison Functions and Operators)
abbrev pub passes : IsTest → Value → Bool
passes test.Null = is_null
passes test.True = is_true
passes test.False = is_false

-- ---- texts (String Functions and Operators)

-- the bytes of a code point in UTF-8
abbrev pub bytes_of : ℕ → ℕ
bytes_of c = if nat_lt c 128 then 1 else (if nat_lt c 2048 then 2 else (if nat_lt c 65536 then 3 else 4))

-- What a cast to text and `||` write of a value that is there: decimal digits, after `-` where
-- negative; `true` or `false` (Data Types, Boolean Type); the text itself.
abbrev pub text_of_value : Value → List ℕ
text_of_value val.Null = []
text_of_value (val.Int n) = signed_decimal n
text_of_value (val.Bool b) = if b then codes "true" else codes "false"
text_of_value (val.Text t) = t

-- A result that is longer than a text may be raises 54000, program_limit_exceeded.
abbrev pub text_within : List ℕ → Or Value
text_within t = if nat_le (sum_by bytes_of t) longest_text then Ok (val.Text t) else Err (class (codes "54000"))

-- `||`: NULL where an operand is NULL
abbrev pub concat : Value → Value → Or Value
concat val.Null b = Ok val.Null
concat a val.Null = Ok val.Null
concat a b = text_within (text_of_value a ++ text_of_value b)

-- from -2^31 to 2^31 - 1, the range of integer (Numeric Types, Integer Types)
abbrev pub fits_small : ℤ → Bool
fits_small (pos n) = nat_lt n (2 ^ 31)
fits_small (negsuc n) = nat_lt n (2 ^ 31)

-- The type of a literal: integer where 32 bits hold it, and else bigint (Lexical Structure, Numeric
-- Constants). The one negative literal that is read, the least bigint, is a bigint.
unfoldable pub literal_type : ℤ → Ty
literal_type (pos n) = if nat_lt n (2 ^ 31) then ty.Integer else ty.Bigint
literal_type (negsuc n) = ty.Bigint

-- a bigint as an integer
abbrev pub small : Value → Or Value
small (val.Int n) = if fits_small n then Ok (val.Int n) else Err (class (codes "22003"))
small _ = Ok val.Null

-- Casts (Value Expressions, Type Casts) go between equal types, to text, and to integer.
abbrev pub cast : Ty → Value → Or Value
cast ty.Bigint v = Ok v
cast ty.Boolean v = Ok v
cast ty.Integer v = small v
cast ty.Text val.Null = Ok val.Null
cast ty.Text v = Ok (val.Text (text_of_value v))

-- how many characters a text has
abbrev pub length_of : Value → Value
length_of (val.Text t) = val.Int (pos (length t))
length_of _ = val.Null

-- the characters at the places p ≤ at < end, where the first of the list stands at `at`
abbrev pub part : ℤ → ℤ → ℤ → List ℕ → List ℕ
part p end at [] = []
part p end at (c ∷ cs) = if not (int_lt at p) && int_lt at end then c ∷ part p end (at +ℤ pos 1) cs else part p end (at +ℤ pos 1) cs

-- `substr(t, p, n)`: the characters at the places p ≤ k < p + n, of which the first of the text is
-- 1. The sum p + n is a whole number and has no bound. A negative n raises 22011, substring_error.
-- Arguments of 64 bits are our own choice.
abbrev pub substr : Value → Value → Value → Or Value
substr (val.Text t) (val.Int p) (val.Int n) = if int_lt n (pos 0) then Err (class (codes "22011")) else Ok (val.Text (part p (p +ℤ n) (pos 1) t))
substr _ _ _ = Ok val.Null

-- The operators on texts, by their operands; another number of operands never stands in a checked
-- tree. `length` is an integer: a text of more characters than an integer counts, which is no value,
-- raises 22003.
abbrev pub text_op : TextOp → List Value → Or Value
text_op text.Concat (a ∷ b ∷ []) = concat a b
text_op text.Length (t ∷ []) = small (length_of t)
text_op text.Substr (t ∷ p ∷ n ∷ []) = substr t p n
text_op text.ToText (v ∷ []) = cast ty.Text v
text_op _ _ = Ok val.Null

-- GREATEST and LEAST of two values, where NULL is ignored (Conditional Expressions)
abbrev pub extreme : Bool → Value → Value → Value
extreme greatest val.Null b = b
extreme greatest a val.Null = a
extreme greatest a b = if (if greatest then less a b else less b a) then b else a
