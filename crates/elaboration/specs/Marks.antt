-- Which operations are those of 32 bits, by the types of their operands: an operation on integers
-- alone, where a literal NULL beside an integer is one. An operation on NULLs alone is one of
-- bigint.
use Rattle.std.specs.Prelude.{Bool, if◌then◌else◌}
use Rattle.away_values.specs.declared.operators.IntOp.{IntOp}
use Rattle.away_values.specs.declared.operators.ChainOp.{ChainOp}
use Rattle.away_values.specs.declared.operators.ChainOp.TheVariants as chain
use Rattle.away_typing.specs.declared.kind.Kind.{Kind}
use Rattle.away_trees.specs.declared.queries.Expr.{Expr}
use Rattle.away_trees.specs.declared.queries.Expr.TheVariants as expr
use Rattle.away_typing.specs.Kinds.{are_integers, is_integer}
use Rattle.away_typing.specs.Typing.{pair}

abbrev pub number_op : Bool → IntOp → ChainOp
number_op small op = if small then chain.Small op else chain.Int op

unfoldable pub marked_op : ChainOp → Kind → Kind → ChainOp
marked_op (chain.Int op) a b = number_op (are_integers a b) op
marked_op (chain.Small op) a b = number_op (are_integers a b) op
marked_op op a b = op

-- the operation without its mark
unfoldable pub plain_op : ChainOp → ChainOp
plain_op (chain.Small op) = chain.Int op
plain_op op = op

-- the minus of an operand
abbrev pub minus : Kind → Expr → Expr
minus k e = if is_integer k then expr.NegSmall e else expr.Neg e

-- what an operation gives, once it is marked
abbrev pub next_kind : ChainOp → Kind → Kind → Kind
next_kind op a b = pair (marked_op op a b) a b
