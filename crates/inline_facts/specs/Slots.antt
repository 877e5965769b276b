-- Whether a slot stands in a tree. No reader writes one.
use Rattle.std.specs.Prelude.{Bool, true, false, ◌||◌, List, Option, Some, None}
use Rattle.std.specs.List.{list_any}
use Rattle.away_values.specs.declared.operators.ChainOp.{ChainOp}
use Rattle.away_trees.specs.declared.queries.Expr.TheOpen.{Expr-F, Source-F}
use Rattle.away_trees.specs.declared.queries.Expr.TheOpen as ex
use Rattle.away_trees.specs.Algebra.{Algebra}

abbrev pub any : List Bool → Bool
any = list_any (λ b. b)

abbrev pub maybe : Option Bool → Bool
maybe None = false
maybe (Some b) = b

abbrev pub term : Expr-F Bool Bool Bool Bool Bool Bool Bool Bool → Bool
term (ex.Slot i) = true
term (ex.Neg e) = e
term (ex.NegSmall e) = e
term (ex.Not e) = e
term (ex.Is e test negative) = e
term (ex.Chain e links) = e || list_any (λ (l : ChainOp × Bool). l.1) links
term (ex.Compare op x y) = x || y
term (ex.Between negative x y z) = x || (y || z)
term (ex.OneOf negative e choices) = e || any choices
term (ex.Cast e t) = e
term (ex.Cases arms other) = list_any (λ (a : Bool × Bool). a.0 || a.1) arms || maybe other
term (ex.Call name es) = any es
term (ex.Scalar q) = q
term (ex.Exists q) = q
term _ = false

abbrev pub rows : Source-F Bool Bool Bool Bool Bool Bool Bool Bool → Bool
rows (ex.Table name) = false
rows (ex.Sub q lateral) = q

abbrev pub slotting : Algebra
slotting = record {
  AnExpr = Bool;
  ASource = Bool;
  AFrom = Bool;
  AnItem = Bool;
  AKey = Bool;
  AQuery = Bool;
  ARecursive = Bool;
  ASelect = Bool;
  no_expr = false;
  no_query = false;
  expr = term;
  source = rows;
  from = λ f. f.source;
  item = λ i. i.expr;
  key = λ k. k.expr;
  query = λ q. maybe q.recursive || any q.selects;
  recursive = λ r. any r.first || r.second;
  select = λ s. any s.list || (any s.from || (maybe s.filter || (any s.order || maybe s.limit)));
}
