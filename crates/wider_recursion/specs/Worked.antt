-- Queries over a recursive table as they are judged in both forms, computed.
use Rattle.std.specs.Prelude.{
  ◌≡◌,
  ℕ,
  pos,
  false,
  List,
  [],
  ◌∷◌,
  codes,
  map,
  Option,
  Some,
  None,
}
use Rattle.away_names.specs.declared.rule.Rule.{Rule}
use Rattle.away_names.specs.declared.rule.Rule.TheVariants as rule
use Rattle.away_trees.specs.declared.queries.Expr.{Expr}
use Rattle.away_trees.specs.declared.queries.Expr.TheVariants as expr
use Rattle.away_trees.specs.declared.queries.Expr.TheViews.{
  roll-FromItem,
  roll-Item,
  roll-Query,
  roll-Recursive,
  roll-Select,
}
use Rattle.away_trees.specs.declared.queries.FromItem.{FromItem}
use Rattle.away_trees.specs.declared.queries.Query.{Query}
use Rattle.away_trees.specs.declared.queries.Select.{Select}
use Rattle.away_trees.specs.declared.queries.Source.{Source}
use Rattle.away_trees.specs.declared.queries.Source.TheVariants as source
use Rattle.away_trees.specs.declared.schemas.Schema.{Schema}
use Rattle.away_types.specs.CheckedQueries.{query_note}
use Rattle.away_values.specs.declared.operators.CmpOp.TheVariants as cmp
use Rattle.away_values.specs.declared.types.Ty.TheVariants as ty
use Rattle.wider_recursion.specs.Wider.{query_note_for_databases}

abbrev pub no_tables : Schema
no_tables = record { tables = [] }

-- ---- small trees

abbrev pub int : ℕ → Expr
int n = expr.Int (pos n)

-- k.n
abbrev pub column : Expr
column = expr.Dotted (codes "k") (codes "n")

-- e AS n
abbrev pub selected : List Expr → List FromItem → Option Expr → Option Expr → Select
selected es from filter limit =
    roll-Select (record {
      list = map (λ e. roll-Item (record { expr = e; alias = Some (codes "n") })) es;
      from = from;
      filter = filter;
      order = [];
      limit = limit;
    })

-- an item of FROM, AS k
abbrev pub known : Source → List FromItem
known s = roll-FromItem (record { source = s; alias = codes "k"; columns = [] }) ∷ []

abbrev pub of_selects : List Select → Query
of_selects selects = roll-Query (record { recursive = None; selects = selects })

abbrev pub over : List Select → List FromItem
over selects = known (source.Sub (of_selects selects) false)

-- SELECT k.n AS n FROM r AS k WHERE k.n < 3 LIMIT NULL
abbrev pub below_three : Option Expr → Select
below_three limit =
    selected (column ∷ []) (known (source.Table (codes "r")))
    (Some (expr.Compare cmp.Lt column (int 3))) limit

-- WITH RECURSIVE r(n) AS (SELECT 1 AS n UNION ALL the term)
-- SELECT k.n AS n, CAST(NULL AS text) AS n FROM r AS k
abbrev pub with_term : Select → Query
with_term term =
    roll-Query (record {
      recursive = Some
          (roll-Recursive (record {
            name = codes "r";
            columns = codes "n" ∷ [];
            first = selected (int 1 ∷ []) [] None None ∷ [];
            second = term;
          }));
      selects =
          selected (column ∷ expr.Cast expr.Null ty.Text ∷ []) (known (source.Table (codes "r")))
          None None
          ∷ [];
    })

-- ---- as they are judged

-- what is broken in the strict form and in the wider one
abbrev pub Broken : Select → Option Rule → Option Rule → Type 0
Broken term strict wider =
    ((query_note no_tables (with_term term)).least ≡ strict)
    × ((query_note_for_databases no_tables (with_term term)).least ≡ wider)

-- The second term takes rows of the table: in its own FROM; in that of a select in its FROM, with a
-- LIMIT, and of one further in. Not so in that of two selects between which UNION ALL stands, nor
-- in a condition. It may not do so twice.
pub record WorkedRecursions : Type 0 where
  pub own : Broken (below_three None) None None
  pub limited : Broken (below_three (Some expr.Null)) (Some rule.Recursion) (Some rule.Recursion)
  pub further : Broken
      (selected (column ∷ []) (over (below_three (Some expr.Null) ∷ [])) None None)
      (Some rule.Recursion)
      None
  pub furthest : Broken
      (selected (column ∷ [])
      (over (selected (column ∷ []) (over (below_three (Some expr.Null) ∷ [])) None None ∷ []))
      None None)
      (Some rule.Recursion)
      None
  pub union : Broken
      (selected (column ∷ []) (over (below_three None ∷ selected (int 5 ∷ []) [] None None ∷ []))
      None None)
      (Some rule.Recursion)
      (Some rule.Recursion)
  pub condition : Broken
      (selected (int 2 ∷ []) [] (Some (expr.Exists (of_selects (below_three None ∷ [])))) None)
      (Some rule.Recursion)
      (Some rule.Recursion)
