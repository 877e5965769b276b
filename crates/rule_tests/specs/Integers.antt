-- Worked functions of type bigint over an integer i, a bigint b and the table t, and the least rule
-- that each breaks.
use Rattle.std.specs.Prelude.{true, false, List, [], ◌∷◌, Some, None, codes}
use Rattle.away_values.specs.declared.types.Ty.TheVariants as ty
use Rattle.away_trees.specs.declared.queries.Expr.{Expr}
use Rattle.away_trees.specs.declared.queries.Expr.TheVariants as expr
use Rattle.away_values.specs.declared.operators.CmpOp.TheVariants as cmp
use Rattle.away_trees.specs.declared.statements.Decl.{Decl}
use Rattle.away_trees.specs.declared.statements.Stmt.{Stmt}
use Rattle.away_trees.specs.declared.statements.Stmt.TheVariants as stmt
use Rattle.away_names.specs.declared.rule.Rule.TheVariants as rule
use Rattle.rule_tests.specs.Pieces.{
  Row,
  n,
  named,
  k,
  t_k,
  called,
  sum_of,
  max_of,
  as_bigint,
  plus,
  scalar,
  select,
  from_t,
  var,
  block,
}

abbrev i : Expr
i = named (codes "i")

abbrev b : Expr
b = named (codes "b")

abbrev as_integer : Expr → Expr
as_integer e = expr.Cast e ty.Integer

-- DECLARE i integer; b bigint; s text
abbrev variables : List Decl
variables = var (codes "i") ty.Integer ∷ var (codes "b") ty.Bigint ∷ var (codes "s") ty.Text ∷ []

abbrev doing : Stmt → Stmt
doing x = block variables (x ∷ stmt.Return i ∷ [])

abbrev sets_i : Expr → Stmt
sets_i e = doing (stmt.Assign (codes "i") None e)

abbrev sets_s : Expr → Stmt
sets_s e = doing (stmt.Assign (codes "s") None e)

abbrev returns : Expr → Stmt
returns e = block variables (stmt.Return e ∷ [])

-- SELECT e INTO i FROM t
abbrev takes : Expr → Stmt
takes e = doing (stmt.Into false ((codes "i", None) ∷ []) (select (e ∷ []) from_t))

abbrev pub integers : List (Row Stmt)
integers =
    -- a number for the other type of numbers
    (sets_i b, None)
    ∷ (sets_i (n 3000000000), None)
    ∷ (sets_i (plus i b), None)
    ∷ (sets_i (expr.Str (codes "1")), Some rule.Types)
    ∷ (sets_i (expr.Bool true), Some rule.Types)
    ∷ (sets_i expr.Null, None)
    ∷ (returns i, None)
    ∷ (returns (as_integer b), None)
    -- casts
    ∷ (returns (as_integer (expr.Bool true)), Some rule.Types)
    ∷ (returns (as_integer (expr.Str (codes "1"))), Some rule.Types)
    ∷ (sets_i (expr.Cast i ty.Boolean), Some rule.Types)
    ∷ (sets_s (expr.Cast i ty.Text), None)
    -- IF i = b
    ∷ (doing (stmt.If (record { test = expr.Compare cmp.Eq i b; body = [] } ∷ []) None), None)
    ∷ (doing (stmt.If (record { test = i; body = [] } ∷ []) None), Some rule.Types)
    -- length and substr
    ∷ (sets_i (plus (called (codes "length") (expr.Str (codes "a") ∷ [])) (n 1)), None)
    ∷ (sets_s (called (codes "substr") (expr.Str (codes "a") ∷ i ∷ b ∷ [])), None)
    -- a sum of integers stands alone, and one of bigints under a cast to bigint
    ∷ (returns (scalar (sum_of (as_integer k)) from_t), None)
    ∷ (returns (scalar (sum_of expr.Null) from_t), None)
    ∷ (returns (scalar (as_integer (sum_of k)) from_t), Some rule.Types)
    ∷ (returns (scalar (as_bigint (sum_of k)) from_t), None)
    -- INTO
    ∷ (takes t_k, None)
    ∷ (takes (max_of t_k), None)
    ∷ (takes (expr.Bool true), Some rule.Types)
    ∷ (takes (sum_of t_k), Some rule.Types)
    ∷ (takes (sum_of (as_integer t_k)), None)
    ∷ []
