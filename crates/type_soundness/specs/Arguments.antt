-- The parameters that stand in a tree, each with its type as often as it stands there, in the order
-- of the text, a select's list before its FROM.
use Rattle.std.specs.Prelude.{ℕ, List, [], ◌∷◌, ◌++◌, Option, Some, None}
use Rattle.std.specs.List.{flat_map}
use Rattle.away_values.specs.declared.types.Ty.{Ty}
use Rattle.away_values.specs.declared.values.Value.{Value}
use Rattle.away_trees.specs.declared.queries.Expr.{Expr}
use Rattle.away_trees.specs.declared.queries.Query.{Query}
use Rattle.away_trees.specs.declared.queries.Expr.TheOpen.{Expr-F, Source-F, Select-F}
use Rattle.away_trees.specs.declared.queries.Expr.TheOpen as ex
use Rattle.away_trees.specs.Algebra.{Algebra, expr_of, query_of}
use Rattle.away_trees.specs.AlgebraEquations.{algebra}
use Rattle.sql_meaning.specs.Context.{argument}
use Rattle.type_soundness.specs.Sorts.{IsOf, Every}

abbrev pub Params : Type 0
Params = List (ℕ × Ty)

abbrev pub all : List Params → Params
all = flat_map (λ ps. ps)

abbrev pub maybe : Option Params → Params
maybe None = []
maybe (Some ps) = ps

abbrev pub of_links : {A : Type 0} → List (A × Params) → Params
of_links = flat_map (λ l. l.1)

abbrev pub of_arms : List (Params × Params) → Params
of_arms = flat_map (λ a. a.0 ++ a.1)

abbrev pub of_expr : Expr-F Params Params Params Params Params Params Params Params → Params
of_expr (ex.Param i ty) = (i, ty) ∷ []
of_expr (ex.Neg e) = e
of_expr (ex.NegSmall e) = e
of_expr (ex.Not e) = e
of_expr (ex.Is e test negative) = e
of_expr (ex.Chain e links) = e ++ of_links links
of_expr (ex.Compare op a b) = a ++ b
of_expr (ex.Between negative e low high) = e ++ (low ++ high)
of_expr (ex.OneOf negative e choices) = e ++ all choices
of_expr (ex.Cast e ty) = e
of_expr (ex.Cases arms other) = of_arms arms ++ maybe other
of_expr (ex.Call name es) = all es
of_expr (ex.Scalar q) = q
of_expr (ex.Exists q) = q
of_expr _ = []

abbrev pub of_source : Source-F Params Params Params Params Params Params Params Params → Params
of_source (ex.Table name) = []
of_source (ex.Sub q lateral) = q

abbrev pub of_select : Select-F Params Params Params Params Params Params Params Params → Params
of_select s = all s.list ++ (all s.from ++ (maybe s.filter ++ (all s.order ++ maybe s.limit)))

abbrev pub standing : Algebra
standing = algebra (record {
  no_expr = [];
  no_query = [];
  expr = of_expr;
  source = of_source;
  from = λ f. f.source;
  item = λ i. i.expr;
  key = λ k. k.expr;
  query = λ q. maybe q.recursive ++ all q.selects;
  recursive = λ r. all r.first ++ r.second;
  select = of_select;
})

abbrev pub params_in : Expr → Params
params_in e = expr_of standing e

abbrev pub params_in_query : Query → Params
params_in_query q = query_of standing q

-- each parameter's argument is of its type
abbrev pub Supplied : List Value → Params → Type 0
Supplied args = Every (λ (p : ℕ × Ty). IsOf p.1 (argument args p.0))
