-- Two queries, as they stand by places and as they are written.
use Rattle.std.specs.Prelude.{ℕ, true, false, List, [], ◌∷◌, Option, Some, None, codes}
use Rattle.away_trees.specs.declared.queries.Expr.{Expr}
use Rattle.away_trees.specs.declared.queries.Expr.TheVariants as expr
use Rattle.away_trees.specs.declared.queries.Source.{Source}
use Rattle.away_trees.specs.declared.queries.Source.TheVariants as source
use Rattle.away_trees.specs.declared.queries.FromItem.{FromItem}
use Rattle.away_trees.specs.declared.queries.Item.{Item}
use Rattle.away_trees.specs.declared.queries.Select.{Select}
use Rattle.away_trees.specs.declared.queries.Query.{Query}
use Rattle.away_trees.specs.declared.queries.Expr.TheViews.{
  roll-FromItem,
  roll-Item,
  roll-Select,
  roll-Recursive,
  roll-Query,
}
use Rattle.away_names.specs.Lookups.{Name}

-- ---- small trees

-- a column: how many selects further out, of which item, at which place
abbrev pub col : ℕ → ℕ → ℕ → Expr
col level item column = expr.Column (record { level = level; item = item; column = column })

abbrev pub item : Expr → Item
item e = roll-Item (record { expr = e; alias = None })

abbrev pub item_as : Expr → Name → Item
item_as e alias = roll-Item (record { expr = e; alias = Some alias })

abbrev pub from_item : Source → Name → List Name → FromItem
from_item x alias columns = roll-FromItem (record { source = x; alias = alias; columns = columns })

abbrev pub select : List Item → List FromItem → Option Expr → Select
select list from filter = roll-Select (record { list = list; from = from; filter = filter; order = []; limit = None })

abbrev pub one : Select → Query
one x = roll-Query (record { recursive = None; selects = x ∷ [] })

-- ---- a query of a table, a LATERAL subquery and another

-- the lists of columns of the two tables, and the six columns that the query reads
abbrev pub joined : List Name → List Name → Expr → Expr → Expr → Expr → Expr → Expr → Query
joined t u first second third fourth fifth sixth =
    -- SELECT first FROM t AS a, LATERAL (SELECT second, third AS w FROM u AS b) AS c, (SELECT TRUE)
    -- AS d(z) WHERE EXISTS (SELECT fourth, fifth FROM u AS b WHERE sixth)
    let inner : Query = one (select (item second ∷ item_as third (codes "w") ∷ []) (from_item (source.Table (codes "u")) (codes "b") u ∷ []) None) in
    let exists : Query = one (select (item fourth ∷ item fifth ∷ []) (from_item (source.Table (codes "u")) (codes "b") u ∷ []) (Some sixth)) in
    one (select (item first ∷ [])
    (from_item (source.Table (codes "t")) (codes "a") t
    ∷ from_item (source.Sub inner true) (codes "c") []
    ∷ from_item (source.Sub (one (select (item (expr.Bool true) ∷ []) [] None)) false) (codes "d") (codes "z" ∷ [])
    ∷ []) (Some (expr.Exists exists)))

-- t is table 0 and has the columns k and v, and u is table 1 and has m. The last column stands
-- nowhere.
abbrev pub joined_by_place : Query
joined_by_place =
    joined (codes "0" ∷ codes "k" ∷ codes "v" ∷ []) (codes "1" ∷ codes "m" ∷ []) (col 0 1 0)
    (col 1 0 1) (col 0 0 0) (col 0 0 0) (col 1 1 1) (col 1 3 0)

abbrev pub joined_by_name : Query
joined_by_name =
    joined [] [] (expr.Dotted (codes "c") (codes "v")) (expr.Dotted (codes "a") (codes "v")) (expr.Dotted (codes "b") (codes "m"))
    (expr.Dotted (codes "b") (codes "m")) (expr.Dotted (codes "c") (codes "w")) (col 1 3 0)

-- ---- a query with a recursive table

-- WITH RECURSIVE r(go, n) AS (SELECT TRUE, $1 UNION ALL SELECT s.go, s.n FROM r, LATERAL (SELECT
-- FALSE, k.v FROM LATERAL (SELECT r.n) AS k(v)) AS s(go, n) WHERE r.go) SELECT r.n FROM r WHERE NOT
-- r.go
abbrev pub recursive : List Name → Expr → Expr → Expr → Expr → Expr → Expr → Expr → Query
recursive listed go n value argument row_go row_n over =
    let columns : List Name = codes "go" ∷ codes "n" ∷ [] in
    let table : FromItem = from_item (source.Table (codes "r")) (codes "r") listed in
    let held : FromItem = from_item (source.Sub (one (select (item argument ∷ []) [] None)) true) (codes "k") (codes "v" ∷ []) in
    let step : FromItem = from_item
    (source.Sub (one (select (item (expr.Bool false) ∷ item value ∷ [])
    (held ∷ []) None)) true) (codes "s") columns in
    let second : Select = select (item go ∷ item n ∷ []) (table ∷ step ∷ []) (Some row_go) in
    let first : Select = select (item (expr.Bool true) ∷ item (expr.Slot 0) ∷ []) [] None in
    roll-Query (record {
      recursive = Some (roll-Recursive (record { name = codes "r"; columns = columns; first = first ∷ []; second = second }));
      selects = select (item row_n ∷ []) (table ∷ []) (Some (expr.Not over)) ∷ [];
    })

abbrev pub recursive_by_place : Query
recursive_by_place = recursive (codes "2" ∷ codes "go" ∷ codes "n" ∷ []) (col 0 1 0) (col 0 1 1)
    (col 0 0 0) (col 2 0 1) (col 0 0 0) (col 0 0 1) (col 0 0 0)

abbrev pub recursive_by_name : Query
recursive_by_name =
    let r : List ℕ = codes "r" in
    recursive [] (expr.Dotted (codes "s") (codes "go")) (expr.Dotted (codes "s") (codes "n"))
    (expr.Dotted (codes "k") (codes "v")) (expr.Dotted r (codes "n"))
    (expr.Dotted r (codes "go")) (expr.Dotted r (codes "n")) (expr.Dotted r (codes "go"))
