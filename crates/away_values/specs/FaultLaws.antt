-- That the fault of an operator is a class.
use Rattle.std.specs.Prelude.{List}
use Rattle.away_values.specs.declared.values.Value.{Value}
use Rattle.away_values.specs.declared.operators.IntOp.{IntOp}
use Rattle.away_values.specs.declared.operators.TextOp.{TextOp}
use Rattle.away_values.specs.declared.types.Ty.{Ty}
use Rattle.away_values.specs.Classes.{FaultsByClass}
use Rattle.away_values.specs.Operators.{cast, int_op, negated, small, text_op}

-- Each operator gives a value or a class; a comparison has no fault.
pub record GiveClasses : Type 0 where
  pub arithmetic : (op : IntOp) (a b : Value) → FaultsByClass (int_op op a b)
  pub minus : (a : Value) → FaultsByClass (negated a)
  pub small_integer : (a : Value) → FaultsByClass (small a)
  pub casts : (t : Ty) (a : Value) → FaultsByClass (cast t a)
  pub texts : (op : TextOp) (args : List Value) → FaultsByClass (text_op op args)
