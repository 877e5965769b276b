-- The kinds of every operator over integers and bigints, and which operations are marked.
use Rattle.std.specs.Prelude.{◌≡◌, pos, negsuc, ◌^◌, ◌-◌, Bool, true, false, [], ◌∷◌, Some, None}
use Rattle.away_values.specs.declared.types.Ty.TheVariants.{Bigint, Boolean, Text, Integer}
use Rattle.away_values.specs.declared.operators.IntOp.{IntOp}
use Rattle.away_values.specs.declared.operators.ChainOp.TheVariants as chain
use Rattle.away_names.specs.declared.function.Known.TheVariants as known
use Rattle.away_typing.specs.declared.kind.Kind.{Kind}
use Rattle.away_typing.specs.declared.kind.Kind.TheVariants.{Null, Of, Sum, Wrong}
use Rattle.away_typing.specs.Kinds.{meet, common}
use Rattle.away_values.specs.Operators.{literal_type}
use Rattle.away_typing.specs.Typing.{cast_kind, call_kind, both}
use Rattle.elaboration.specs.Marks.{marked_op, number_op, next_kind}
use Rattle.elaboration.specs.Elaborating.{negated, made}
use Rattle.away_trees.specs.declared.queries.Expr.{Expr}
use Rattle.away_trees.specs.declared.queries.Expr.TheVariants as expr

abbrev pub integer : Kind
integer = Of Integer

abbrev pub bigint : Kind
bigint = Of Bigint

abbrev pub text : Kind
text = Of Text

-- an operation over these kinds is of 32 bits or not, and has this kind
abbrev pub Gives : IntOp → Kind → Kind → Bool → Kind → Type 0
Gives op a b small k =
    (marked_op (chain.Int op) a b ≡ number_op small op)
    × (marked_op (chain.Small op) a b ≡ number_op small op)
    × (next_kind (chain.Int op) a b ≡ k)

-- + - * / %
pub record Arithmetic (op : IntOp) : Type 0 where
  pub integers : Gives op integer integer true integer
  pub integer_null : Gives op integer Null true integer
  pub null_integer : Gives op Null integer true integer
  pub nulls : Gives op Null Null false bigint
  pub bigints : Gives op bigint bigint false bigint
  pub integer_bigint : Gives op integer bigint false bigint
  pub bigint_integer : Gives op bigint integer false bigint
  pub bigint_null : Gives op bigint Null false bigint
  pub null_bigint : Gives op Null bigint false bigint
  pub integer_text : Gives op integer text false Wrong
  pub text_bigint : Gives op text bigint false Wrong
  pub sum_integer : Gives op Sum integer false Wrong

-- unary minus
pub record Minus (e : Expr) : Type 0 where
  pub of_integer : negated (made integer e) ≡ made integer (expr.NegSmall e)
  pub of_bigint : negated (made bigint e) ≡ made bigint (expr.Neg e)
  pub of_null : negated (made Null e) ≡ made bigint (expr.Neg e)
  pub of_text : negated (made text e) ≡ made Wrong (expr.Neg e)
  pub of_sum : negated (made Sum e) ≡ made Wrong (expr.Neg e)

-- the common kind: comparisons, BETWEEN, IN, CASE, COALESCE, GREATEST, LEAST and UNION ALL
pub record Common : Type 0 where
  pub integers : meet integer integer ≡ integer
  pub integer_bigint : meet integer bigint ≡ bigint
  pub bigint_integer : meet bigint integer ≡ bigint
  pub bigints : meet bigint bigint ≡ bigint
  pub null_integer : meet Null integer ≡ integer
  pub integer_null : meet integer Null ≡ integer
  pub integer_text : meet integer text ≡ Wrong
  pub three : common (integer ∷ Null ∷ bigint ∷ integer ∷ []) ≡ bigint
  pub coalesce : call_kind known.Coalesce (integer ∷ Null ∷ []) ≡ integer
  pub coalesce_both : call_kind known.Coalesce (integer ∷ bigint ∷ []) ≡ bigint
  pub greatest : call_kind known.Greatest (Null ∷ integer ∷ bigint ∷ []) ≡ bigint
  pub nulls : call_kind known.Least (Null ∷ Null ∷ []) ≡ text
  pub union : both (Some (integer ∷ bigint ∷ Null ∷ [])) (Some (bigint ∷ integer ∷ integer ∷ []))
      ≡ Some (bigint ∷ bigint ∷ integer ∷ [])
  pub not_union : both (Some (integer ∷ [])) (Some (text ∷ [])) ≡ None

-- a cast to a type
pub record Casts : Type 0 where
  pub integer_to_bigint : cast_kind Bigint integer ≡ bigint
  pub bigint_to_integer : cast_kind Integer bigint ≡ integer
  pub integer_to_integer : cast_kind Integer integer ≡ integer
  pub integer_to_text : cast_kind Text integer ≡ text
  pub integer_to_boolean : cast_kind Boolean integer ≡ Wrong
  pub boolean_to_integer : cast_kind Integer (Of Boolean) ≡ Wrong
  pub text_to_integer : cast_kind Integer text ≡ Wrong
  pub null_to_integer : cast_kind Integer Null ≡ integer
  pub sum_to_bigint : cast_kind Bigint Sum ≡ bigint
  pub sum_to_integer : cast_kind Integer Sum ≡ Wrong

-- calls
pub record Calls : Type 0 where
  pub length : call_kind known.Length (text ∷ []) ≡ integer
  pub substr : call_kind known.Substr (text ∷ integer ∷ bigint ∷ []) ≡ text
  pub substr_null : call_kind known.Substr (Null ∷ Null ∷ integer ∷ []) ≡ text
  pub count : call_kind known.Count (integer ∷ []) ≡ bigint
  pub min_of_integer : call_kind known.Min (integer ∷ []) ≡ integer
  pub max_of_bigint : call_kind known.Max (bigint ∷ []) ≡ bigint
  pub sum_of_integer : call_kind known.Sum (integer ∷ []) ≡ bigint
  pub sum_of_bigint : call_kind known.Sum (bigint ∷ []) ≡ Sum
  pub sum_of_null : call_kind known.Sum (Null ∷ []) ≡ bigint
  pub sum_of_text : call_kind known.Sum (text ∷ []) ≡ Wrong

-- literals
pub record Literals : Type 0 where
  pub zero_ : literal_type (pos 0) ≡ Integer
  pub greatest_integer : literal_type (pos (2 ^ 31 - 1)) ≡ Integer
  pub first_bigint : literal_type (pos (2 ^ 31)) ≡ Bigint
  pub greatest_bigint : literal_type (pos (2 ^ 63 - 1)) ≡ Bigint
  pub least_bigint : literal_type (negsuc (2 ^ 63 - 1)) ≡ Bigint
