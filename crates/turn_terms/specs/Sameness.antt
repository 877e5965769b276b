-- Whether two expressions are the same, as far as this is looked for: what has BETWEEN, IN, a
-- sign, a call or a subquery in it is the same as nothing. What is found to be the same is.
use Rattle.std.specs.Prelude.{
  ℕ,
  ◌+◌,
  Bool,
  true,
  false,
  ◌&&◌,
  List,
  [],
  ◌∷◌,
  Option,
  Some,
  None,
  nat_eq,
}
use Rattle.std.specs.Ordering.{int_eq}
use Rattle.std.specs.Str.{bytes_eq}
use Rattle.away_trees.specs.declared.queries.Col.{Col}
use Rattle.away_trees.specs.declared.queries.Expr.{Expr}
use Rattle.away_trees.specs.declared.queries.Expr.TheOpen.{Expr-F}
use Rattle.away_trees.specs.declared.queries.Expr.TheOpen as ex
use Rattle.away_trees.specs.declared.queries.Expr.TheViews.{out-Expr}
use Rattle.away_trees.specs.declared.queries.FromItem.{FromItem}
use Rattle.away_trees.specs.declared.queries.Item.{Item}
use Rattle.away_trees.specs.declared.queries.Key.{Key}
use Rattle.away_trees.specs.declared.queries.Query.{Query}
use Rattle.away_trees.specs.declared.queries.Recursive.{Recursive}
use Rattle.away_trees.specs.declared.queries.Select.{Select}
use Rattle.away_trees.specs.declared.queries.Source.{Source}
use Rattle.away_trees.specs.Algebra.{Algebra, expr_of}
use Rattle.away_values.specs.declared.operators.ChainOp.{ChainOp}
use Rattle.away_values.specs.declared.operators.ChainOp.TheVariants as chain
use Rattle.away_values.specs.declared.operators.CmpOp.{CmpOp}
use Rattle.away_values.specs.declared.operators.CmpOp.TheVariants as cmp
use Rattle.away_values.specs.declared.operators.IntOp.{IntOp}
use Rattle.away_values.specs.declared.operators.IntOp.TheVariants as int
use Rattle.away_values.specs.declared.operators.IsTest.{IsTest}
use Rattle.away_values.specs.declared.operators.IsTest.TheVariants as test
use Rattle.away_values.specs.declared.types.Ty.{Ty}
use Rattle.away_values.specs.declared.types.Ty.TheVariants as ty

-- ---- operators and types by number

abbrev pub int_number : IntOp → ℕ
int_number int.Add = 0
int_number int.Sub = 1
int_number int.Mul = 2
int_number int.Div = 3
int_number int.Rem = 4

abbrev pub chain_number : ChainOp → ℕ
chain_number chain.Or = 0
chain_number chain.And = 1
chain_number chain.Concat = 2
chain_number (chain.Int op) = 3 + int_number op
chain_number (chain.Small op) = 8 + int_number op

abbrev pub cmp_number : CmpOp → ℕ
cmp_number cmp.Eq = 0
cmp_number cmp.Ne = 1
cmp_number cmp.Lt = 2
cmp_number cmp.Le = 3
cmp_number cmp.Gt = 4
cmp_number cmp.Ge = 5

abbrev pub test_number : IsTest → ℕ
test_number test.Null = 0
test_number test.True = 1
test_number test.False = 2

abbrev pub type_number : Ty → ℕ
type_number ty.Bigint = 0
type_number ty.Boolean = 1
type_number ty.Text = 2
type_number ty.Integer = 3

abbrev pub same_truth : Bool → Bool → Bool
same_truth true b = b
same_truth false true = false
same_truth false false = true

-- ---- an expression as the test for it

abbrev pub Test : Type 0
Test = Expr → Bool

abbrev pub is_column : Col → Col → Bool
is_column a b = nat_eq a.level b.level && (nat_eq a.item b.item && nat_eq a.column b.column)

-- both lists, member by member
abbrev pub each_passes : {A B : Type 0} → (A → B → Bool) → List A → List B → Bool
each_passes p [] [] = true
each_passes p [] (y ∷ ys) = false
each_passes p (x ∷ xs) [] = false
each_passes p (x ∷ xs) (y ∷ ys) = p x y && each_passes p xs ys

abbrev pub link_passes : ChainOp × Test → ChainOp × Expr → Bool
link_passes t l = nat_eq (chain_number t.0) (chain_number l.0) && t.1 l.1

abbrev pub arm_passes : Test × Test → Expr × Expr → Bool
arm_passes t a = t.0 a.0 && t.1 a.1

abbrev pub other_passes : Option Test → Option Expr → Bool
other_passes None None = true
other_passes None (Some e) = false
other_passes (Some t) None = false
other_passes (Some t) (Some e) = t e

-- an expression by its parts
abbrev pub Node : Type 0
Node = Expr-F Expr Source FromItem Item Key Query Recursive Select

abbrev pub node_test : Expr-F Test ℕ ℕ ℕ ℕ ℕ ℕ ℕ → Node → Bool
node_test (ex.Int n) (ex.Int m) = int_eq n m
node_test (ex.Str t) (ex.Str s) = bytes_eq t s
node_test (ex.Bool v) (ex.Bool w) = same_truth v w
node_test ex.Null ex.Null = true
node_test (ex.Column c) (ex.Column d) = is_column c d
node_test (ex.Not t) (ex.Not e) = t e
node_test (ex.Is t a v) (ex.Is e b w) =
    nat_eq (test_number a) (test_number b) && (same_truth v w && t e)
node_test (ex.Chain t ts) (ex.Chain e links) = t e && each_passes link_passes ts links
node_test (ex.Compare a s t) (ex.Compare b x y) =
    nat_eq (cmp_number a) (cmp_number b) && (s x && t y)
node_test (ex.Cast t a) (ex.Cast e b) = nat_eq (type_number a) (type_number b) && t e
node_test (ex.Cases ts t) (ex.Cases arms other) =
    each_passes arm_passes ts arms && other_passes t other
node_test t e = false

abbrev pub expr_test : Expr-F Test ℕ ℕ ℕ ℕ ℕ ℕ ℕ → Test
expr_test t e = node_test t (out-Expr e)

abbrev pub testing : Algebra
testing =
    record {
      AnExpr = Test;
      ASource = ℕ;
      AFrom = ℕ;
      AnItem = ℕ;
      AKey = ℕ;
      AQuery = ℕ;
      ARecursive = ℕ;
      ASelect = ℕ;
      no_expr = λ e. false;
      no_query = 0;
      expr = expr_test;
      source = λ s. 0;
      from = λ f. 0;
      item = λ i. 0;
      key = λ k. 0;
      query = λ q. 0;
      recursive = λ r. 0;
      select = λ s. 0;
    }

abbrev pub same : Expr → Expr → Bool
same x y = expr_of testing x y
