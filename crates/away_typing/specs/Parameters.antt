-- The parameters that stand in a tree, with their types, joined to those found before it.
use Rattle.std.specs.Prelude.{
  ℕ,
  Bool,
  false,
  not,
  ◌||◌,
  if◌then◌else◌,
  ◌==◌,
  nat_lt,
  List,
  [],
  ◌∷◌,
  fold,
  Option,
  Some,
  None,
}
use Rattle.away_values.specs.declared.types.Ty.{Ty}
use Rattle.away_trees.specs.declared.queries.Expr.TheOpen.{
  Expr-F,
  Source-F,
  Select-F,
  Recursive-F,
  Query-F,
}
use Rattle.away_trees.specs.declared.queries.Expr.TheOpen as ex
use Rattle.away_trees.specs.Algebra.{Algebra}
use Rattle.away_trees.specs.AlgebraEquations.{algebra}
use Rattle.away_typing.specs.declared.params.Params.{Params}
use Rattle.away_typing.specs.Kinds.{same}

-- in its place in an ascending list, once
abbrev pub inserted : ℕ × Ty → List (ℕ × Ty) → List (ℕ × Ty)
inserted x [] = x ∷ []
inserted x (y ∷ ys) = if nat_lt x.0 y.0 then x ∷ y ∷ ys else if x.0 == y.0 then y ∷ ys else y ∷ inserted x ys

-- it has another type there
abbrev pub clashes : ℕ × Ty → List (ℕ × Ty) → Bool
clashes x [] = false
clashes x (y ∷ ys) = if x.0 == y.0 then not (same x.1 y.1) else clashes x ys

unfoldable pub taken : Params → ℕ × Ty → Params
taken p x = record { list = inserted x p.list; clash = p.clash || clashes x p.list }

unfoldable pub no_params : Params
no_params = record { list = []; clash = false }

abbrev pub Found : Type 0
Found = Params → Params

abbrev pub each : List Found → Found
each fs p = fold (λ p f. f p) p fs

abbrev pub maybe : Option Found → Found
maybe None p = p
maybe (Some f) p = f p

abbrev pub found : Expr-F Found Found Found Found Found Found Found Found → Found
found (ex.Param i ty) p = taken p (i, ty)
found (ex.Neg e) p = e p
found (ex.NegSmall e) p = e p
found (ex.Not e) p = e p
found (ex.Is e test negative) p = e p
found (ex.Chain e links) p = fold (λ p l. l.1 p) (e p) links
found (ex.Compare op a b) p = b (a p)
found (ex.Between negative e low high) p = high (low (e p))
found (ex.OneOf negative e choices) p = each choices (e p)
found (ex.Cast e ty) p = e p
found (ex.Cases arms other) p = maybe other (fold (λ p arm. arm.1 (arm.0 p)) p arms)
found (ex.Call name es) p = each es p
found (ex.Scalar q) p = q p
found (ex.Exists q) p = q p
found _ p = p

abbrev pub in_source : Source-F Found Found Found Found Found Found Found Found → Found
in_source (ex.Table name) p = p
in_source (ex.Sub q lateral) p = q p

abbrev pub in_select : Select-F Found Found Found Found Found Found Found Found → Found
in_select s p = maybe s.limit (each s.order (maybe s.filter (each s.from (each s.list p))))

abbrev pub in_recursive : Recursive-F Found Found Found Found Found Found Found Found → Found
in_recursive r p = r.second (each r.first p)

abbrev pub in_query : Query-F Found Found Found Found Found Found Found Found → Found
in_query q p = each q.selects (maybe q.recursive p)

abbrev pub finding : Algebra
finding = algebra (record {
  no_expr = λ p. p;
  no_query = λ p. p;
  expr = found;
  source = in_source;
  from = λ f. f.source;
  item = λ i. i.expr;
  key = λ k. k.expr;
  query = in_query;
  recursive = in_recursive;
  select = in_select;
})
