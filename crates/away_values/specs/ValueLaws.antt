-- That what an operator gives is a value of its type.
use Rattle.std.specs.Prelude.{◌≡◌, Ok}
use Rattle.away_values.specs.declared.values.Value.{Value}
use Rattle.away_values.specs.declared.operators.IntOp.{IntOp}
use Rattle.away_values.specs.declared.operators.CmpOp.{CmpOp}
use Rattle.away_values.specs.declared.types.Ty.TheVariants as ty
use Rattle.away_values.specs.Operators.{
  int_op,
  negated,
  compare,
  concat,
  cast,
  length_of,
  small,
  substr,
}
use Rattle.away_values.specs.Values.{HasType, IsValue}

-- The result of each operator, where it isn't a class, is NULL or a value of the operator's type.
pub record AreTyped : Type 0 where
  pub arithmetic : (op : IntOp) (a b r : Value) → int_op op a b ≡ Ok r → HasType r ty.Bigint
  pub minus : (a r : Value) → negated a ≡ Ok r → HasType r ty.Bigint
  pub small_integer : (a r : Value) → small a ≡ Ok r → HasType r ty.Integer
  pub comparison : (op : CmpOp) (a b : Value) → HasType (compare op a b) ty.Boolean
  pub joined : (a b r : Value) → IsValue a → IsValue b → concat a b ≡ Ok r → HasType r ty.Text
  pub part : (t p n r : Value) → IsValue t → substr t p n ≡ Ok r → HasType r ty.Text
  pub spelling : (v r : Value) → IsValue v → cast ty.Text v ≡ Ok r → HasType r ty.Text
  pub count : (t : Value) → IsValue t → HasType (length_of t) ty.Bigint
