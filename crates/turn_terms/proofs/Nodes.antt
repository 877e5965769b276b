-- The nodes of expressions that are written out.
use Rattle.std.proofs.Common.{◌≡◌, ℕ, ℤ, Bool, List, Option, Some, None}
use Rattle.away_values.specs.declared.types.Ty.{Ty}
use Rattle.away_values.specs.declared.operators.ChainOp.{ChainOp}
use Rattle.away_values.specs.declared.operators.CmpOp.{CmpOp}
use Rattle.away_values.specs.declared.operators.IsTest.{IsTest}
use Rattle.away_trees.specs.declared.queries.Col.{Col}
use Rattle.away_trees.specs.declared.queries.Expr.{Expr}
use Rattle.away_trees.specs.declared.queries.Expr.TheOpen as ex
use Rattle.away_trees.specs.declared.queries.Expr.TheVariants as v
use Rattle.away_trees.specs.declared.queries.Expr.TheViews.{out-Expr, roll-Expr, out-roll-Expr}

pub see_int : (n : ℤ) → out-Expr (v.Int n) ≡ ex.Int n
unfolding roll-Expr denote.Hole.Carrier.roll
see_int n = out-roll-Expr (ex.Int n)

pub see_str : (t : List ℕ) → out-Expr (v.Str t) ≡ ex.Str t
unfolding roll-Expr denote.Hole.Carrier.roll
see_str t = out-roll-Expr (ex.Str t)

pub see_bool : (n : Bool) → out-Expr (v.Bool n) ≡ ex.Bool n
unfolding roll-Expr denote.Hole.Carrier.roll
see_bool n = out-roll-Expr (ex.Bool n)

pub see_null : out-Expr v.Null ≡ ex.Null
unfolding roll-Expr denote.Hole.Carrier.roll
see_null = out-roll-Expr ex.Null

pub see_column : (c : Col) → out-Expr (v.Column c) ≡ ex.Column c
unfolding roll-Expr denote.Hole.Carrier.roll
see_column c = out-roll-Expr (ex.Column c)

pub see_not : (x : Expr) → out-Expr (v.Not x) ≡ ex.Not x
unfolding roll-Expr denote.Hole.Carrier.roll
see_not x = out-roll-Expr (ex.Not x)

pub see_is : (x : Expr) (t : IsTest) (n : Bool) → out-Expr (v.Is x t n) ≡ ex.Is x t n
unfolding roll-Expr denote.Hole.Carrier.roll
see_is x t n = out-roll-Expr (ex.Is x t n)

pub see_chain : (x : Expr) (xs : List (ChainOp × Expr)) → out-Expr (v.Chain x xs) ≡ ex.Chain x xs
unfolding roll-Expr denote.Hole.Carrier.roll
see_chain x xs = out-roll-Expr (ex.Chain x xs)

pub see_compare : (o : CmpOp) (x y : Expr) → out-Expr (v.Compare o x y) ≡ ex.Compare o x y
unfolding roll-Expr denote.Hole.Carrier.roll
see_compare o x y = out-roll-Expr (ex.Compare o x y)

pub see_cast : (x : Expr) (t : Ty) → out-Expr (v.Cast x t) ≡ ex.Cast x t
unfolding roll-Expr denote.Hole.Carrier.roll
see_cast x t = out-roll-Expr (ex.Cast x t)

pub see_cases : (xs : List (Expr × Expr)) (x : Option Expr) → out-Expr (v.Cases xs x) ≡ ex.Cases xs x
unfolding roll-Expr denote.Hole.Carrier.roll
see_cases xs None = out-roll-Expr (ex.Cases xs None)
see_cases xs (Some x) = out-roll-Expr (ex.Cases xs (Some x))
