-- An expression with a subquery, for examples of what is read and of what is replaced.
use Rattle.std.specs.Prelude.{pos, false, [], ◌∷◌, Some, None}
use Rattle.away_values.specs.declared.types.Ty.TheVariants.{Integer}
use Rattle.away_values.specs.declared.operators.ChainOp.TheVariants as chain
use Rattle.away_values.specs.declared.operators.IntOp.TheVariants as op
use Rattle.away_values.specs.declared.operators.IsTest.TheVariants as test
use Rattle.away_trees.specs.declared.queries.Expr.{Expr}
use Rattle.away_trees.specs.declared.queries.Expr.TheVariants as expr
use Rattle.sql_meaning.specs.Trees.{col, lateral, select, one}
use Rattle.sql_meaning.specs.Examples.{t, chain_of}

-- a + b + (SELECT x.v FROM t, LATERAL (SELECT t.k + c) AS x WHERE d IS NULL) + literal
abbrev pub shape : Expr → Expr → Expr → Expr → Expr → Expr
shape a b c d literal =
    expr.Chain a ((chain.Int op.Add, b) ∷ (
      chain.Int op.Add,
      expr.Scalar (one (select (col 0 1 0 ∷ []) (t ∷ lateral (one (select (chain_of (col 1 0 0) (chain.Int op.Add) c ∷ []) [] None))
          ∷ []) (Some (expr.Is d test.Null false)))),
    ) ∷ (chain.Int op.Add, literal) ∷ [])

-- over the variables 3, 5 and 1
abbrev pub over_slots : Expr
over_slots = shape (expr.Slot 3) (expr.Slot 5) (expr.Slot 3) (expr.Slot 1) (expr.Int (pos 7))

-- the same where variable i is column i + 2 of a row that is two selects out
abbrev pub over_columns : Expr
over_columns = shape (col 2 0 5) (col 2 0 7) (col 4 0 5) (col 3 0 3)
    (expr.Cast (expr.Int (pos 7)) Integer)
