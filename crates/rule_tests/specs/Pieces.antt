-- Pieces of worked trees, as the readers make them.
use Rattle.std.specs.Prelude.{ℕ, pos, Bool, false, List, [], ◌∷◌, map, Option, Some, None, codes}
use Rattle.away_values.specs.declared.types.Ty.{Ty}
use Rattle.away_values.specs.declared.types.Ty.TheVariants as ty
use Rattle.away_values.specs.declared.operators.ChainOp.TheVariants as chain
use Rattle.away_values.specs.declared.operators.IntOp.TheVariants as int
use Rattle.away_trees.specs.declared.queries.Expr.{Expr}
use Rattle.away_trees.specs.declared.queries.Expr.TheVariants as expr
use Rattle.away_trees.specs.declared.queries.Source.TheVariants as source
use Rattle.away_trees.specs.declared.queries.FromItem.{FromItem}
use Rattle.away_trees.specs.declared.queries.Item.{Item}
use Rattle.away_trees.specs.declared.queries.Select.{Select}
use Rattle.away_trees.specs.declared.queries.Query.{Query}
use Rattle.away_trees.specs.declared.queries.Expr.TheViews.{
  roll-Item,
  roll-FromItem,
  roll-Key,
  roll-Select,
  roll-Recursive,
  roll-Query,
}
use Rattle.away_trees.specs.declared.schemas.ColumnSchema.{ColumnSchema}
use Rattle.away_trees.specs.declared.schemas.Schema.{Schema}
use Rattle.away_trees.specs.declared.schemas.TableSchema.{TableSchema}
use Rattle.away_trees.specs.declared.statements.Decl.{Decl}
use Rattle.away_trees.specs.declared.statements.LoopKind.TheVariants as kind
use Rattle.away_trees.specs.declared.statements.Stmt.{Stmt}
use Rattle.away_trees.specs.declared.statements.Stmt.TheVariants as stmt
use Rattle.away_names.specs.declared.rule.Rule.{Rule}

abbrev pub Name : Type 0
Name = List ℕ

-- a tree, and the least rule that it breaks, if it breaks one
abbrev pub Row : Type 0 → Type 0
Row A = A × Option Rule

abbrev pub column : Name → Ty → ColumnSchema
column name type = record { name = name; ty = type; not_null = false }

-- CREATE TABLE t (k bigint, v text);
abbrev pub t : TableSchema
t = record { name = codes "t"; columns = column (codes "k") ty.Bigint ∷ column (codes "v") ty.Text ∷ [] }

abbrev pub schema : Schema
schema = record { tables = t ∷ [] }

-- ---- expressions

abbrev pub n : ℕ → Expr
n x = expr.Int (pos x)

abbrev pub named : Name → Expr
named x = expr.Named x

abbrev pub k : Expr
k = expr.Named (codes "k")

abbrev pub t_k : Expr
t_k = expr.Dotted (codes "t") (codes "k")

abbrev pub called : Name → List Expr → Expr
called name es = expr.Call name es

abbrev pub count : Expr
count = expr.CountRows

abbrev pub sum_of : Expr → Expr
sum_of e = called (codes "sum") (e ∷ [])

abbrev pub max_of : Expr → Expr
max_of e = called (codes "max") (e ∷ [])

abbrev pub as_bigint : Expr → Expr
as_bigint e = expr.Cast e ty.Bigint

abbrev pub null_text : Expr
null_text = expr.Cast expr.Null ty.Text

abbrev pub plus : Expr → Expr → Expr
plus a b = expr.Chain a ((chain.Int int.Add, b) ∷ [])

abbrev pub concat : Expr → Expr → Expr
concat a b = expr.Chain a ((chain.Concat, b) ∷ [])

-- ---- queries

abbrev pub item : Expr → Item
item e = roll-Item (record { expr = e; alias = None })

abbrev pub from : Name → FromItem
from table = roll-FromItem (record { source = source.Table table; alias = table; columns = [] })

-- (q) AS alias(columns), LATERAL or not
abbrev pub sub : Bool → Name → List Name → Query → FromItem
sub lateral alias columns q = roll-FromItem (record { source = source.Sub q lateral; alias = alias; columns = columns })

abbrev pub select : List Expr → List FromItem → Select
select list from = roll-Select (record { list = map item list; from = from; filter = None; order = []; limit = None })

abbrev pub query : List Select → Query
query selects = roll-Query (record { recursive = None; selects = selects })

abbrev pub one : List Expr → List FromItem → Query
one list from = query (select list from ∷ [])

-- SELECT e
abbrev pub scalar : Expr → List FromItem → Expr
scalar e from = expr.Scalar (one (e ∷ []) from)

abbrev pub from_t : List FromItem
from_t = from (codes "t") ∷ []

-- SELECT list FROM t ORDER BY keys LIMIT limit
abbrev pub ordered : List Item → List Expr → Option Expr → Select
ordered list keys limit =
    let order = map (λ e. roll-Key (record { expr = e; descending = false })) keys in
    roll-Select (record { list = list; from = from_t; filter = None; order = order; limit = limit })

abbrev pub from_r : List FromItem
from_r = from (codes "r") ∷ []

-- WITH RECURSIVE r(columns) AS (first UNION ALL second) SELECT list FROM r
abbrev pub with_recursive : List Name → Select → Select → List Expr → Query
with_recursive columns first second list =
    let r = roll-Recursive (record { name = codes "r"; columns = columns; first = first ∷ []; second = second }) in
    roll-Query (record { recursive = Some r; selects = select list from_r ∷ [] })

-- ---- statements

abbrev pub var : Name → Ty → Decl
var x type = record { name = x; ty = type; constant = false; not_null = false; default = None }

-- name bigint, CONSTANT or not, NOT NULL or not, with a default or not
abbrev pub declared : Name → Bool → Bool → Option Expr → Decl
declared name constant not_null default = record { name = name; ty = ty.Bigint; constant = constant; not_null = not_null; default = default }

abbrev pub block : List Decl → List Stmt → Stmt
block decls body = stmt.Block None decls body None

abbrev pub loop : Option Name → List Stmt → Option Name → Stmt
loop label body closing = stmt.Loop label kind.Plain body closing

-- FOR i IN 1 .. 3 LOOP body END LOOP
abbrev pub counting : Name → List Stmt → Stmt
counting i body = stmt.Loop None (kind.Count i false (n 1) (n 3) None) body None
