-- A tree without the marks of its operations: as it was written.
use Rattle.std.specs.Prelude.{[], map, None}
use Rattle.away_values.specs.declared.operators.ChainOp.{ChainOp}
use Rattle.away_trees.specs.declared.queries.Expr.{Expr}
use Rattle.away_trees.specs.declared.queries.Expr.TheVariants as expr
use Rattle.away_trees.specs.declared.queries.Source.{Source}
use Rattle.away_trees.specs.declared.queries.Source.TheVariants as source
use Rattle.away_trees.specs.declared.queries.FromItem.{FromItem}
use Rattle.away_trees.specs.declared.queries.Item.{Item}
use Rattle.away_trees.specs.declared.queries.Key.{Key}
use Rattle.away_trees.specs.declared.queries.Select.{Select}
use Rattle.away_trees.specs.declared.queries.Recursive.{Recursive}
use Rattle.away_trees.specs.declared.queries.Query.{Query}
use Rattle.away_trees.specs.declared.queries.Expr.TheOpen.{
  Expr-F,
  Source-F,
  FromItem-F,
  Item-F,
  Key-F,
  Select-F,
  Recursive-F,
  Query-F,
}
use Rattle.away_trees.specs.declared.queries.Expr.TheOpen as ex
use Rattle.away_trees.specs.declared.queries.Expr.TheViews.{
  roll-Item,
  roll-FromItem,
  roll-Key,
  roll-Select,
  roll-Recursive,
  roll-Query,
}
use Rattle.away_trees.specs.Algebra.{Algebra, expr_of, select_of, query_of}
use Rattle.away_trees.specs.AlgebraEquations.{algebra}
use Rattle.elaboration.specs.Marks.{plain_op}

abbrev pub plain_link : {A : Type 0} → ChainOp × A → ChainOp × A
plain_link l = (plain_op l.0, l.1)

abbrev pub plain_expr : Expr-F Expr Source FromItem Item Key Query Recursive Select → Expr
plain_expr (ex.Int n) = expr.Int n
plain_expr (ex.Str t) = expr.Str t
plain_expr (ex.Bool v) = expr.Bool v
plain_expr ex.Null = expr.Null
plain_expr (ex.Named name) = expr.Named name
plain_expr (ex.Dotted alias name) = expr.Dotted alias name
plain_expr (ex.Slot i) = expr.Slot i
plain_expr (ex.Column c) = expr.Column c
plain_expr (ex.Param i t) = expr.Param i t
plain_expr (ex.Neg e) = expr.Neg e
plain_expr (ex.NegSmall e) = expr.Neg e
plain_expr (ex.Not e) = expr.Not e
plain_expr (ex.Is e test negative) = expr.Is e test negative
plain_expr (ex.Chain e links) = expr.Chain e (map plain_link links)
plain_expr (ex.Compare op x y) = expr.Compare op x y
plain_expr (ex.Between negative x y z) = expr.Between negative x y z
plain_expr (ex.OneOf negative e choices) = expr.OneOf negative e choices
plain_expr (ex.Cast e t) = expr.Cast e t
plain_expr (ex.Cases arms other) = expr.Cases arms other
plain_expr (ex.Call name es) = expr.Call name es
plain_expr ex.CountRows = expr.CountRows
plain_expr (ex.Scalar q) = expr.Scalar q
plain_expr (ex.Exists q) = expr.Exists q

abbrev pub same_source : Source-F Expr Source FromItem Item Key Query Recursive Select → Source
same_source (ex.Table name) = source.Table name
same_source (ex.Sub q lateral) = source.Sub q lateral

abbrev pub erasing : Algebra
erasing = algebra (record {
  no_expr = expr.Null;
  no_query = roll-Query (record { recursive = None; selects = [] });
  expr = plain_expr;
  source = same_source;
  from = λ f.
      roll-FromItem (record { source = f.source; alias = f.alias; columns = f.columns });
  item = λ i. roll-Item (record { expr = i.expr; alias = i.alias });
  key = λ k. roll-Key (record { expr = k.expr; descending = k.descending });
  query = λ q. roll-Query (record { recursive = q.recursive; selects = q.selects });
  recursive = λ r.
      roll-Recursive (record {
        name = r.name;
        columns = r.columns;
        first = r.first;
        second = r.second;
      });
  select = λ s.
      roll-Select (record {
        list = s.list;
        from = s.from;
        filter = s.filter;
        order = s.order;
        limit = s.limit;
      });
})

unfoldable pub erased : Expr → Expr
erased e = expr_of erasing e

unfoldable pub erased_select : Select → Select
erased_select s = select_of erasing s

unfoldable pub erased_query : Query → Query
erased_query q = query_of erasing q
