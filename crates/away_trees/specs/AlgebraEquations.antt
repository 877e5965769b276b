-- What the recursion over queries gives at each kind of node: the step of that kind, over what it
-- gives at the parts.
use Rattle.std.specs.Prelude.{◌≡◌, ℕ, ℤ, Bool, List, Option, map, option_map}
use Rattle.away_values.specs.declared.types.Ty.{Ty}
use Rattle.away_trees.specs.declared.queries.Col.{Col}
use Rattle.away_values.specs.declared.operators.ChainOp.{ChainOp}
use Rattle.away_values.specs.declared.operators.CmpOp.{CmpOp}
use Rattle.away_values.specs.declared.operators.IsTest.{IsTest}
use Rattle.away_trees.specs.declared.queries.Expr.{Expr}
use Rattle.away_trees.specs.declared.queries.Expr.TheVariants as expr
use Rattle.away_trees.specs.declared.queries.Source.{Source}
use Rattle.away_trees.specs.declared.queries.Source.TheVariants as source
use Rattle.away_trees.specs.declared.queries.FromItem.{FromItem}
use Rattle.away_trees.specs.declared.queries.Item.{Item}
use Rattle.away_trees.specs.declared.queries.Key.{Key}
use Rattle.away_trees.specs.declared.queries.Select.{Select}
use Rattle.away_trees.specs.declared.queries.Recursive.{Recursive}
use Rattle.away_trees.specs.declared.queries.Query.{Query}
use Rattle.away_trees.specs.declared.queries.Expr.TheOpen.{
  Expr-F,
  Source-F,
  FromItem-F,
  Item-F,
  Key-F,
  Select-F,
  Recursive-F,
  Query-F,
}
use Rattle.away_trees.specs.declared.queries.Expr.TheOpen as ex
use Rattle.away_trees.specs.declared.queries.Expr.TheViews.{
  roll-Item,
  roll-FromItem,
  roll-Key,
  roll-Select,
  roll-Recursive,
  roll-Query,
}
use Rattle.away_trees.specs.Algebra.{
  Algebra,
  expr_of,
  select_of,
  item_of,
  from_of,
  key_of,
  source_of,
  recursive_of,
  query_of,
}

-- the steps of an algebra, over carriers that are given one by one
pub record Steps (AnExpr ASource AFrom AnItem AKey AQuery ARecursive ASelect : Type 0) : Type 0 where
  pub no_expr : AnExpr
  pub no_query : AQuery
  pub expr : Expr-F AnExpr ASource AFrom AnItem AKey AQuery ARecursive ASelect → AnExpr
  pub source : Source-F AnExpr ASource AFrom AnItem AKey AQuery ARecursive ASelect → ASource
  pub from : FromItem-F AnExpr ASource AFrom AnItem AKey AQuery ARecursive ASelect → AFrom
  pub item : Item-F AnExpr ASource AFrom AnItem AKey AQuery ARecursive ASelect → AnItem
  pub key : Key-F AnExpr ASource AFrom AnItem AKey AQuery ARecursive ASelect → AKey
  pub query : Query-F AnExpr ASource AFrom AnItem AKey AQuery ARecursive ASelect → AQuery
  pub recursive : Recursive-F AnExpr ASource AFrom AnItem AKey AQuery ARecursive ASelect → ARecursive
  pub select : Select-F AnExpr ASource AFrom AnItem AKey AQuery ARecursive ASelect → ASelect

abbrev pub algebra : {AnExpr ASource AFrom AnItem AKey AQuery ARecursive ASelect : Type 0}
    → Steps AnExpr ASource AFrom AnItem AKey AQuery ARecursive ASelect → Algebra
algebra {AnExpr} {ASource} {AFrom} {AnItem} {AKey} {AQuery} {ARecursive} {ASelect} s = record {
  AnExpr = AnExpr;
  ASource = ASource;
  AFrom = AFrom;
  AnItem = AnItem;
  AKey = AKey;
  AQuery = AQuery;
  ARecursive = ARecursive;
  ASelect = ASelect;
  no_expr = s.no_expr;
  no_query = s.no_query;
  expr = s.expr;
  source = s.source;
  from = s.from;
  item = s.item;
  key = s.key;
  query = s.query;
  recursive = s.recursive;
  select = s.select;
}

pub record Equations (a : Algebra) : Type 0 where
  pub int : (n : ℤ) → expr_of a (expr.Int n) ≡ a.expr (ex.Int n)
  pub str : (text : List ℕ) → expr_of a (expr.Str text) ≡ a.expr (ex.Str text)
  pub bool : (v : Bool) → expr_of a (expr.Bool v) ≡ a.expr (ex.Bool v)
  pub null : expr_of a expr.Null ≡ a.expr ex.Null
  pub named : (name : List ℕ) → expr_of a (expr.Named name) ≡ a.expr (ex.Named name)
  pub qualified : (alias name : List ℕ) → expr_of a (expr.Dotted alias name) ≡ a.expr (ex.Dotted alias name)
  pub slot : (i : ℕ) → expr_of a (expr.Slot i) ≡ a.expr (ex.Slot i)
  pub column : (c : Col) → expr_of a (expr.Column c) ≡ a.expr (ex.Column c)
  pub param : (i : ℕ) (ty : Ty) → expr_of a (expr.Param i ty) ≡ a.expr (ex.Param i ty)
  pub neg : (e : Expr) → expr_of a (expr.Neg e) ≡ a.expr (ex.Neg (expr_of a e))
  pub neg_small : (e : Expr) → expr_of a (expr.NegSmall e) ≡ a.expr (ex.NegSmall (expr_of a e))
  pub not : (e : Expr) → expr_of a (expr.Not e) ≡ a.expr (ex.Not (expr_of a e))
  pub is : (e : Expr) (test : IsTest) (negative : Bool) → expr_of a (expr.Is e test negative) ≡ a.expr (ex.Is (expr_of a e) test negative)
  pub chain : (e : Expr) (links : List (ChainOp × Expr)) →
      expr_of a (expr.Chain e links) ≡ a.expr (ex.Chain (expr_of a e) (map (λ l. (l.0, expr_of a l.1)) links))
  pub compare : (op : CmpOp) (x y : Expr) → expr_of a (expr.Compare op x y) ≡ a.expr (ex.Compare op (expr_of a x) (expr_of a y))
  pub between : (negative : Bool) (x y z : Expr) →
      expr_of a (expr.Between negative x y z) ≡ a.expr (ex.Between negative (expr_of a x) (expr_of a y) (expr_of a z))
  pub one_of : (negative : Bool) (e : Expr) (choices : List Expr) →
      expr_of a (expr.OneOf negative e choices) ≡ a.expr (ex.OneOf negative (expr_of a e) (map (λ x. expr_of a x) choices))
  pub cast : (e : Expr) (ty : Ty) → expr_of a (expr.Cast e ty) ≡ a.expr (ex.Cast (expr_of a e) ty)
  pub cases : (arms : List (Expr × Expr)) (other : Option Expr) →
      expr_of a (expr.Cases arms other) ≡ a.expr (ex.Cases (map (λ x. (expr_of a x.0, expr_of a x.1)) arms) (option_map (λ x. expr_of a x) other))
  pub call : (name : List ℕ) (args : List Expr) → expr_of a (expr.Call name args) ≡ a.expr (ex.Call name (map (λ x. expr_of a x) args))
  pub count_rows : expr_of a expr.CountRows ≡ a.expr ex.CountRows
  pub scalar : (q : Query) → expr_of a (expr.Scalar q) ≡ a.expr (ex.Scalar (query_of a q))
  pub exists : (q : Query) → expr_of a (expr.Exists q) ≡ a.expr (ex.Exists (query_of a q))
  pub table : (name : List ℕ) → source_of a (source.Table name) ≡ a.source (ex.Table name)
  pub sub : (q : Query) (lateral : Bool) → source_of a (source.Sub q lateral) ≡ a.source (ex.Sub (query_of a q) lateral)
  pub from : (s : Source) (alias : List ℕ) (columns : List (List ℕ)) →
      from_of a (roll-FromItem (record { source = s; alias = alias; columns = columns }))
      ≡ a.from (record { source = source_of a s; alias = alias; columns = columns })
  pub item : (e : Expr) (alias : Option (List ℕ)) →
      item_of a (roll-Item (record { expr = e; alias = alias })) ≡ a.item (record { expr = expr_of a e; alias = alias })
  pub key : (e : Expr) (descending : Bool) →
      key_of a (roll-Key (record { expr = e; descending = descending })) ≡ a.key (record { expr = expr_of a e; descending = descending })
  pub select : (list : List Item) (from : List FromItem) (filter : Option Expr) (order : List Key) (limit : Option Expr) →
      select_of a (roll-Select (record { list = list; from = from; filter = filter; order = order; limit = limit }))
      ≡ a.select (record {
        list = map (λ x. item_of a x) list;
        from = map (λ x. from_of a x) from;
        filter = option_map (λ e. expr_of a e) filter;
        order = map (λ x. key_of a x) order;
        limit = option_map (λ e. expr_of a e) limit;
      })
  pub recursive : (name : List ℕ) (columns : List (List ℕ)) (first : List Select) (second : Select) →
      recursive_of a (roll-Recursive (record { name = name; columns = columns; first = first; second = second }))
      ≡ a.recursive (record { name = name; columns = columns; first = map (λ x. select_of a x) first; second = select_of a second })
  pub query : (recursive : Option Recursive) (selects : List Select) →
      query_of a (roll-Query (record { recursive = recursive; selects = selects }))
      ≡ a.query (record { recursive = option_map (λ r. recursive_of a r) recursive; selects = map (λ s. select_of a s) selects })
