-- The fixed list: expressions that patterns need and no function writes, over the slots a and b.
-- One more entry is a word of Fixed with its expression, its slots and its place here, and a line
-- of `entries`.
use Rattle.std.specs.Prelude.{ℕ, pos, ◌-◌, ◌^◌, Bool, true, false, List, [], ◌∷◌, map}
use Rattle.away_values.specs.declared.types.Ty.{Ty}
use Rattle.away_values.specs.declared.types.Ty.TheVariants as ty
use Rattle.away_values.specs.declared.operators.ChainOp.{ChainOp}
use Rattle.away_values.specs.declared.operators.ChainOp.TheVariants as chain
use Rattle.away_values.specs.declared.operators.CmpOp.{CmpOp}
use Rattle.away_values.specs.declared.operators.CmpOp.TheVariants as cmp
use Rattle.away_values.specs.declared.operators.IntOp.TheVariants as int
use Rattle.away_values.specs.declared.operators.IsTest.TheVariants as is
use Rattle.away_trees.specs.declared.queries.Expr.{Expr}
use Rattle.away_trees.specs.declared.queries.Expr.TheVariants as expr
use Rattle.block_forms.specs.declared.fixed_list.Fixed.{Fixed}
use Rattle.block_forms.specs.declared.fixed_list.Fixed.TheVariants as fix

abbrev pub a : Expr
a = expr.Slot 0

abbrev pub b : Expr
b = expr.Slot 1

abbrev pub null_as : Ty → Expr
null_as t = expr.Cast expr.Null t

abbrev pub a_is_null : Expr
a_is_null = expr.Is a is.Null false

abbrev pub of_two : ChainOp → Expr → Expr → Expr
of_two op x y = expr.Chain x ((op, y) ∷ [])

abbrev pub compared : CmpOp → Expr → Expr → Expr
compared op x y = expr.Compare op x y

abbrev pub greatest : Expr
greatest = expr.Int (pos (2 ^ 31 - 1))

-- the least integer, as it is written: the minus of a literal that is a bigint
abbrev pub least : Expr
least = expr.Neg (expr.Int (pos (2 ^ 31)))

-- what an entry computes; the entries of FOR do so with integers
abbrev pub expression : Fixed → Expr
expression (fix.Null t) = null_as t
expression (fix.IsNull t) = a_is_null
expression fix.NotPositive = compared cmp.Le a (expr.Int (pos 0))
expression fix.AtMost = compared cmp.Le a b
expression fix.AtLeast = compared cmp.Ge a b
expression fix.PastGreatest = compared cmp.Lt (of_two (chain.Small int.Sub) greatest a) b
expression fix.PastLeast = compared cmp.Gt (of_two (chain.Int int.Add) least a) b
expression fix.Sum = of_two (chain.Small int.Add) a b
expression fix.Difference = of_two (chain.Small int.Sub) a b
expression fix.One = expr.Int (pos 1)
expression fix.Copy = a

-- the slots that it reads, in the order of their first occurrence
abbrev pub slots : Fixed → List ℕ
slots (fix.Null t) = []
slots (fix.IsNull t) = 0 ∷ []
slots fix.NotPositive = 0 ∷ []
slots fix.AtMost = 0 ∷ 1 ∷ []
slots fix.AtLeast = 0 ∷ 1 ∷ []
slots fix.PastGreatest = 0 ∷ 1 ∷ []
slots fix.PastLeast = 0 ∷ 1 ∷ []
slots fix.Sum = 0 ∷ 1 ∷ []
slots fix.Difference = 0 ∷ 1 ∷ []
slots fix.One = []
slots fix.Copy = 0 ∷ []

-- its place in the list
abbrev pub position : Fixed → ℕ
position (fix.Null ty.Bigint) = 0
position (fix.Null ty.Boolean) = 1
position (fix.Null ty.Text) = 2
position (fix.Null ty.Integer) = 15
position (fix.IsNull ty.Bigint) = 3
position (fix.IsNull ty.Boolean) = 4
position (fix.IsNull ty.Text) = 5
position (fix.IsNull ty.Integer) = 16
position fix.NotPositive = 6
position fix.AtMost = 7
position fix.AtLeast = 8
position fix.PastGreatest = 9
position fix.PastLeast = 10
position fix.Sum = 11
position fix.Difference = 12
position fix.One = 13
position fix.Copy = 14

abbrev pub entries : List Fixed
entries =
    fix.Null ty.Bigint
    ∷ fix.Null ty.Boolean
    ∷ fix.Null ty.Text
    ∷ fix.IsNull ty.Bigint
    ∷ fix.IsNull ty.Boolean
    ∷ fix.IsNull ty.Text
    ∷ fix.NotPositive
    ∷ fix.AtMost
    ∷ fix.AtLeast
    ∷ fix.PastGreatest
    ∷ fix.PastLeast
    ∷ fix.Sum
    ∷ fix.Difference
    ∷ fix.One
    ∷ fix.Copy
    ∷ fix.Null ty.Integer
    ∷ fix.IsNull ty.Integer
    ∷ []

-- how many there are
abbrev pub many : ℕ
many = 17

abbrev pub fixed_list : List Expr
fixed_list = map expression entries

-- the entries of a FOR that counts down, or up: whether its counter is in range, whether a further
-- step would leave the integers, and the counter of the next turn
abbrev pub in_range_entry : Bool → Fixed
in_range_entry true = fix.AtLeast
in_range_entry false = fix.AtMost

abbrev pub past_end_entry : Bool → Fixed
past_end_entry true = fix.PastLeast
past_end_entry false = fix.PastGreatest

abbrev pub next_entry : Bool → Fixed
next_entry true = fix.Difference
next_entry false = fix.Sum
