-- Worked examples: which expressions are written where they are read.
use Rattle.std.specs.Prelude.{◌≡◌, ℕ, zero, suc, Bool, true, false, List, [], ◌∷◌, Some, pos, codes}
use Rattle.away_trees.specs.declared.queries.Expr.{Expr}
use Rattle.away_trees.specs.declared.queries.Expr.TheVariants as expr
use Rattle.away_values.specs.declared.operators.ChainOp.{ChainOp}
use Rattle.away_values.specs.declared.operators.ChainOp.TheVariants as chain
use Rattle.away_values.specs.declared.operators.CmpOp.TheVariants as cmp
use Rattle.away_values.specs.declared.operators.IntOp.{IntOp}
use Rattle.away_values.specs.declared.operators.IntOp.TheVariants as int
use Rattle.away_values.specs.declared.operators.IsTest.TheVariants as test
use Rattle.away_values.specs.declared.types.Ty.TheVariants as ty
use Rattle.turn_terms.specs.Choosing.{chosen_total}

-- a term of this expression
abbrev chosen : Expr → Bool
chosen e = chosen_total (e ∷ []) (record { expr = 0; names = [] })

abbrev a : Expr
a = expr.Slot 0

abbrev b : Expr
b = expr.Slot 1

abbrev number : ℕ → Expr
number n = expr.Int (pos n)

abbrev computed : IntOp → Expr → Expr → Expr
computed op x y = expr.Chain x ((chain.Int op, y) ∷ [])

abbrev equal : Expr → Expr → Expr
equal x y = expr.Compare cmp.Eq x y

-- CASE WHEN a IS NULL THEN b ELSE x END
abbrev or_else : Expr → Expr
or_else x = expr.Cases ((expr.Is a test.Null false, b) ∷ []) (Some x)

-- AND b, so many times
abbrev times : ℕ → List (ChainOp × Expr)
times zero = []
times (suc n) = (chain.And, b) ∷ times n

-- What may fault isn't chosen, nor is what has more than twelve nodes.
pub record WorkedTerms : Type 0 where
  pub slot : chosen a ≡ true
  pub null : chosen expr.Null ≡ true
  pub text : chosen (expr.Str (codes "a")) ≡ true
  pub equality : chosen (equal a (number 1)) ≡ true
  pub remainder : chosen (equal (computed int.Rem a (number 2)) (number 0)) ≡ true
  pub by_zero : chosen (computed int.Rem a (number 0)) ≡ false
  pub by_variable : chosen (computed int.Rem a b) ≡ false
  pub sum : chosen (computed int.Add a (number 1)) ≡ false
  pub wide : chosen (expr.Cast a ty.Bigint) ≡ true
  pub narrow : chosen (expr.Cast a ty.Integer) ≡ false
  pub cases : chosen (or_else a) ≡ true
  pub may_fault : chosen (or_else (computed int.Div a b)) ≡ false
  pub column : chosen (expr.Column (record { level = 0; item = 0; column = 0 })) ≡ false
  pub sign : chosen (expr.Neg a) ≡ false
  pub twelve : chosen (expr.Chain a (times 10)) ≡ true
  pub thirteen : chosen (expr.Chain a (times 11)) ≡ false
