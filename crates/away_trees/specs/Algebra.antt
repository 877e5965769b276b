-- One recursion over the trees of queries, for every definition that goes by the parts of a node:
-- an algebra has one step for each kind of node.
use Rattle.std.specs.Prelude.{List, [], ◌∷◌, Option, Some, None}
use Rattle.away_values.specs.declared.operators.ChainOp.{ChainOp}
use Rattle.away_trees.specs.declared.queries.Expr.{Expr}
use Rattle.away_trees.specs.declared.queries.Source.{Source}
use Rattle.away_trees.specs.declared.queries.FromItem.{FromItem}
use Rattle.away_trees.specs.declared.queries.Item.{Item}
use Rattle.away_trees.specs.declared.queries.Key.{Key}
use Rattle.away_trees.specs.declared.queries.Select.{Select}
use Rattle.away_trees.specs.declared.queries.Recursive.{Recursive}
use Rattle.away_trees.specs.declared.queries.Query.{Query}
use Rattle.away_trees.specs.declared.queries.Expr.TheOpen.{
  Expr-F,
  Source-F,
  FromItem-F,
  Item-F,
  Key-F,
  Select-F,
  Recursive-F,
  Query-F,
}
use Rattle.away_trees.specs.declared.queries.Expr.TheOpen as ex
use Rattle.away_trees.specs.declared.queries.Expr.TheBlock as b
use Rattle.away_trees.specs.declared.queries.Expr.TheViews.{out-Item, out-FromItem, out-Key}

-- what stands for each kind of node, and the steps. `no_expr` and `no_query` stand where no tree
-- leads.
pub record Algebra : Type 1 where
  pub AnExpr : Type 0
  pub ASource : Type 0
  pub AFrom : Type 0
  pub AnItem : Type 0
  pub AKey : Type 0
  pub AQuery : Type 0
  pub ARecursive : Type 0
  pub ASelect : Type 0
  pub no_expr : AnExpr
  pub no_query : AQuery
  pub expr : Expr-F AnExpr ASource AFrom AnItem AKey AQuery ARecursive ASelect → AnExpr
  pub source : Source-F AnExpr ASource AFrom AnItem AKey AQuery ARecursive ASelect → ASource
  pub from : FromItem-F AnExpr ASource AFrom AnItem AKey AQuery ARecursive ASelect → AFrom
  pub item : Item-F AnExpr ASource AFrom AnItem AKey AQuery ARecursive ASelect → AnItem
  pub key : Key-F AnExpr ASource AFrom AnItem AKey AQuery ARecursive ASelect → AKey
  pub query : Query-F AnExpr ASource AFrom AnItem AKey AQuery ARecursive ASelect → AQuery
  pub recursive : Recursive-F AnExpr ASource AFrom AnItem AKey AQuery ARecursive ASelect → ARecursive
  pub select : Select-F AnExpr ASource AFrom AnItem AKey AQuery ARecursive ASelect → ASelect

abbrev pub head_or : {A : Type 0} → A → List A → A
head_or d [] = d
head_or d (x ∷ xs) = x

abbrev mutual
  pub expr_of : (a : Algebra) → Expr → a.AnExpr
  expr_of a (b.Int n) = a.expr (ex.Int n)
  expr_of a (b.Str t) = a.expr (ex.Str t)
  expr_of a (b.Bool v) = a.expr (ex.Bool v)
  expr_of a b.Null = a.expr ex.Null
  expr_of a (b.Named name) = a.expr (ex.Named name)
  expr_of a (b.Dotted alias name) = a.expr (ex.Dotted alias name)
  expr_of a (b.Slot i) = a.expr (ex.Slot i)
  expr_of a (b.Column c) = a.expr (ex.Column c)
  expr_of a (b.Param i ty) = a.expr (ex.Param i ty)
  expr_of a (b.Neg' p e) = a.expr (ex.Neg (head_or a.no_expr (exprs_of a e)))
  expr_of a (b.NegSmall' p e) = a.expr (ex.NegSmall (head_or a.no_expr (exprs_of a e)))
  expr_of a (b.Not' p e) = a.expr (ex.Not (head_or a.no_expr (exprs_of a e)))
  expr_of a (b.Is' p e test negative) = a.expr (ex.Is (head_or a.no_expr (exprs_of a e)) test negative)
  expr_of a (b.Chain' p e s links) = a.expr (ex.Chain (head_or a.no_expr (exprs_of a e)) (links_of a links))
  expr_of a (b.Compare' op p x q y) = a.expr (ex.Compare op (head_or a.no_expr (exprs_of a x)) (head_or a.no_expr (exprs_of a y)))
  expr_of a (b.Between' negative p x q y r z) = a.expr (ex.Between negative (head_or a.no_expr (exprs_of a x))
      (head_or a.no_expr (exprs_of a y)) (head_or a.no_expr (exprs_of a z)))
  expr_of a (b.OneOf' negative p e s choices) = a.expr (ex.OneOf negative (head_or a.no_expr (exprs_of a e)) (exprs_of a choices))
  expr_of a (b.Cast' p e ty) = a.expr (ex.Cast (head_or a.no_expr (exprs_of a e)) ty)
  expr_of a (b.Cases' s arms other) = a.expr (ex.Cases (arms_of a arms) (other_of a other))
  expr_of a (b.Call' name s es) = a.expr (ex.Call name (exprs_of a es))
  expr_of a b.CountRows = a.expr ex.CountRows
  expr_of a (b.Scalar' p q) = a.expr (ex.Scalar (head_or a.no_query (queries_of a q)))
  expr_of a (b.Exists' p q) = a.expr (ex.Exists (head_or a.no_query (queries_of a q)))

  pub exprs_of : {m : _} → (a : Algebra) → b.Row_of-Expr m → List a.AnExpr
  exprs_of a b.end_of-Expr = []
  exprs_of a (b.more_of-Expr e rest) = expr_of a e ∷ exprs_of a rest

  pub links_of : {m : _} → (a : Algebra) → b.Row_of-Expr-Chain-1-2 m → List (ChainOp × a.AnExpr)
  links_of a b.end_of-Expr-Chain-1-2 = []
  links_of a (b.more_of-Expr-Chain-1-2 op e rest) = (op, expr_of a e) ∷ links_of a rest

  pub arms_of : {m : _} → (a : Algebra) → b.Row_of-Expr-Cases-0-2 m → List (a.AnExpr × a.AnExpr)
  arms_of a b.end_of-Expr-Cases-0-2 = []
  arms_of a (b.more_of-Expr-Cases-0-2 x y rest) = (expr_of a x, expr_of a y) ∷ arms_of a rest

  pub other_of : (a : Algebra) → b.Held-Expr-Cases-1 → Option a.AnExpr
  other_of a b.Expr-Cases-1-None' = None
  other_of a (b.Expr-Cases-1-Some' p e) = Some (head_or a.no_expr (exprs_of a e))

  pub filter_of : (a : Algebra) → b.Held-Select-filter → Option a.AnExpr
  filter_of a b.Select-filter-None' = None
  filter_of a (b.Select-filter-Some' e) = Some (expr_of a e)

  pub items_of : {m : _} → (a : Algebra) → b.Row_of-Item m → List a.AnItem
  items_of a b.end_of-Item = []
  items_of a (b.more_of-Item e alias rest) = a.item (record { expr = expr_of a e; alias = alias }) ∷ items_of a rest

  pub keys_of : {m : _} → (a : Algebra) → b.Row_of-Key m → List a.AKey
  keys_of a b.end_of-Key = []
  keys_of a (b.more_of-Key e descending rest) = a.key (record { expr = expr_of a e; descending = descending }) ∷ keys_of a rest

  pub source_of : (a : Algebra) → Source → a.ASource
  source_of a (b.Table name) = a.source (ex.Table name)
  source_of a (b.Sub' p q lateral) = a.source (ex.Sub (head_or a.no_query (queries_of a q)) lateral)

  pub froms_of : {m : _} → (a : Algebra) → b.Row_of-FromItem m → List a.AFrom
  froms_of a b.end_of-FromItem = []
  froms_of a (b.more_of-FromItem source alias columns rest) = a.from (record { source = source_of a source; alias = alias; columns = columns })
      ∷ froms_of a rest

  pub select_of : (a : Algebra) → Select → a.ASelect
  select_of a (b.struct-Select s list t from filter u order limit) =
      a.select (record {
        list = items_of a list;
        from = froms_of a from;
        filter = filter_of a filter;
        order = keys_of a order;
        limit = filter_of a limit;
      })

  pub selects_of : {m : _} → (a : Algebra) → b.Row_of-Select m → List a.ASelect
  selects_of a b.end_of-Select = []
  selects_of a (b.more_of-Select s rest) = select_of a s ∷ selects_of a rest

  pub recursive_of : (a : Algebra) → Recursive → a.ARecursive
  recursive_of a (b.struct-Recursive name columns s first second) = a.recursive (record {
    name = name;
    columns = columns;
    first = selects_of a first;
    second = select_of a second;
  })

  pub with_of : (a : Algebra) → b.Held-Query-recursive → Option a.ARecursive
  with_of a b.Query-recursive-None' = None
  with_of a (b.Query-recursive-Some' r) = Some (recursive_of a r)

  pub query_of : (a : Algebra) → Query → a.AQuery
  query_of a (b.struct-Query recursive s selects) = a.query (record { recursive = with_of a recursive; selects = selects_of a selects })

  pub queries_of : {m : _} → (a : Algebra) → b.Row_of-Query m → List a.AQuery
  queries_of a b.end_of-Query = []
  queries_of a (b.more_of-Query q rest) = query_of a q ∷ queries_of a rest

abbrev pub item_of : (a : Algebra) → Item → a.AnItem
item_of a i = a.item (record { expr = expr_of a (out-Item i).expr; alias = (out-Item i).alias })

abbrev pub from_of : (a : Algebra) → FromItem → a.AFrom
from_of a f = a.from (record { source = source_of a (out-FromItem f).source; alias = (out-FromItem f).alias; columns = (out-FromItem f).columns })

abbrev pub key_of : (a : Algebra) → Key → a.AKey
key_of a k = a.key (record { expr = expr_of a (out-Key k).expr; descending = (out-Key k).descending })
