-- Which terms are written where they are read: those that can't fault and are short. The others
-- are a column of a level each, or wait for their one cell.
use Rattle.std.specs.Prelude.{
  ℕ,
  suc,
  ◌+◌,
  Bool,
  ◌&&◌,
  nat_lt,
  List,
  [],
  ◌∷◌,
  get_or,
  Option,
  Some,
  None,
}
use Rattle.away_trees.specs.declared.queries.Expr.{Expr}
use Rattle.away_trees.specs.declared.queries.Expr.TheVariants as expr
use Rattle.away_trees.specs.declared.queries.Expr.TheOpen.{Expr-F}
use Rattle.away_trees.specs.declared.queries.Expr.TheOpen as ex
use Rattle.away_trees.specs.Algebra.{Algebra, expr_of}
use Rattle.away_values.specs.declared.operators.ChainOp.{ChainOp}
use Rattle.block_forms.specs.declared.forms.Term.{Term}
use Rattle.turn_template.specs.Totals.{Sure, total_term}

abbrev pub sum_of : {A : Type 0} → (A → ℕ) → List A → ℕ
sum_of f [] = 0
sum_of f (x ∷ xs) = f x + sum_of f xs

abbrev pub other_size : Option ℕ → ℕ
other_size None = 0
other_size (Some n) = n

-- the nodes of an expression; a query, a call and a sign are one
abbrev pub expr_size : Expr-F ℕ ℕ ℕ ℕ ℕ ℕ ℕ ℕ → ℕ
expr_size (ex.Int n) = 1
expr_size (ex.Str t) = 1
expr_size (ex.Bool v) = 1
expr_size ex.Null = 1
expr_size (ex.Named name) = 1
expr_size (ex.Dotted alias name) = 1
expr_size (ex.Slot i) = 1
expr_size (ex.Column c) = 1
expr_size (ex.Param i t) = 1
expr_size (ex.Neg e) = 1
expr_size (ex.NegSmall e) = 1
expr_size (ex.Not e) = suc e
expr_size (ex.Is e test negative) = suc e
expr_size (ex.Chain e links) = suc (e + sum_of (λ (l : ChainOp × ℕ). l.1) links)
expr_size (ex.Compare op x y) = suc (x + y)
expr_size (ex.Between negative x y z) = suc (x + (y + z))
expr_size (ex.OneOf negative e choices) = suc (e + sum_of (λ (n : ℕ). n) choices)
expr_size (ex.Cast e t) = suc e
expr_size (ex.Cases arms other) = suc (sum_of (λ (a : ℕ × ℕ). a.0 + a.1) arms + other_size other)
expr_size (ex.Call name es) = 1
expr_size ex.CountRows = 1
expr_size (ex.Scalar q) = 1
expr_size (ex.Exists q) = 1

abbrev pub sizes : Algebra
sizes =
    record {
      AnExpr = ℕ;
      ASource = ℕ;
      AFrom = ℕ;
      AnItem = ℕ;
      AKey = ℕ;
      AQuery = ℕ;
      ARecursive = ℕ;
      ASelect = ℕ;
      no_expr = 0;
      no_query = 0;
      expr = expr_size;
      source = λ s. 0;
      from = λ f. 0;
      item = λ i. 0;
      key = λ k. 0;
      query = λ q. 0;
      recursive = λ r. 0;
      select = λ s. 0;
    }

abbrev pub size : Expr → ℕ
size e = expr_of sizes e

-- what is sure, by its two properties
abbrev pub sure_of : Bool → Bool → Sure
sure_of always divides = record { always = always; divides = divides }

-- at most twelve nodes
abbrev pub is_short : Expr → Bool
is_short e = nat_lt (size e) 13

abbrev pub chosen_total : List Expr → Term → Bool
chosen_total table t = is_short (get_or table t.expr expr.Null) && total_term table t
