-- Four expressions of a function whose schema has a table t with a column x, where the function has
-- the variables x and k.
use Rattle.std.specs.Prelude.{true, false, if◌then◌else◌, List, [], ◌∷◌, Option, Some, None, codes, bytes_eq}
use Rattle.away_values.specs.declared.operators.CmpOp.TheVariants as cmp
use Rattle.away_trees.specs.declared.queries.Expr.{Expr}
use Rattle.away_trees.specs.declared.queries.Expr.TheVariants as e
use Rattle.away_trees.specs.declared.queries.Source.{Source}
use Rattle.away_trees.specs.declared.queries.Source.TheVariants as source
use Rattle.away_trees.specs.declared.queries.FromItem.{FromItem}
use Rattle.away_trees.specs.declared.queries.Query.{Query}
use Rattle.away_trees.specs.declared.queries.Expr.TheViews.{
  roll-FromItem,
  roll-Item,
  roll-Select,
  roll-Query,
}
use Rattle.away_names.specs.declared.scope.Variable.{Variable}
use Rattle.away_names.specs.Lookups.{Name, Scope}
use Rattle.away_names.specs.declared.rule.Rule.TheVariants as rule
use Rattle.broken_names.specs.declared.culprit.Culprit.TheVariants as culprit
use Rattle.broken_names.specs.Holds.{Holds, of_expr}

abbrev variable : Name → Variable
variable n = record { name = n; slot = 0; constant = false }

abbrev pub place : Scope
place = record {
  table = λ n.
      if bytes_eq n (codes "t")
      then Some (record { written = codes "0" ∷ codes "x" ∷ []; recursive = false })
      else None;
  levels = [];
  variables = variable (codes "x") ∷ variable (codes "k") ∷ [];
  in_function = true;
}

abbrev from_item : Source → Name → FromItem
from_item x alias = roll-FromItem (record { source = x; alias = alias; columns = [] })

-- SELECT value FROM from WHERE filter
abbrev query : Expr → List FromItem → Option Expr → Query
query value from filter = roll-Query (record {
  recursive = None;
  selects =
      roll-Select
      (record {
        list = roll-Item (record { expr = value; alias = None }) ∷ [];
        from = from;
        filter = filter;
        order = [];
        limit = None;
      })
      ∷ [];
})

abbrev t : FromItem
t = from_item (source.Table (codes "t")) (codes "a")

-- (SELECT TRUE FROM t AS a WHERE y = k), where y stands for nothing
abbrev pub unknown : Expr
unknown = e.Scalar (query (e.Bool true) (t ∷ [])
    (Some (e.Compare cmp.Eq (e.Named (codes "y")) (e.Named (codes "k")))))

-- (SELECT x FROM t AS a), where x stands for a column and a variable
abbrev pub doubtful : Expr
doubtful = e.Scalar (query (e.Named (codes "x")) (t ∷ []) None)

-- EXISTS (SELECT TRUE FROM t AS a, LATERAL (SELECT a.y) AS b), where a has no column y
abbrev pub beside : Expr
beside = e.Exists (query (e.Bool true)
    (t ∷ from_item (source.Sub (query (e.Dotted (codes "a") (codes "y")) [] None) true) (codes "b")
    ∷ []) None)

-- EXISTS (SELECT TRUE FROM u AS b), where u is no table
abbrev pub elsewhere : Expr
elsewhere =
    e.Exists (query (e.Bool true) (from_item (source.Table (codes "u")) (codes "b") ∷ []) None)

-- Each of the four has its culprit.
pub record HaveCulprits : Type 0 where
  pub name : Holds rule.Names place (of_expr unknown) (culprit.Name (codes "y"))
  pub both : Holds rule.Ambiguity place (of_expr doubtful) (culprit.Name (codes "x"))
  pub column : Holds rule.Names place (of_expr beside) (culprit.Column (codes "a") (codes "y"))
  pub table : Holds rule.Tables place (of_expr elsewhere) (culprit.Table (codes "u"))
