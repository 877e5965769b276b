-- The events of the parts of a query's template.
use Rattle.std.specs.Prelude.{suc, true, pos, List, ◌∷◌, ℕ}
use Rattle.away_trees.specs.declared.queries.Expr.{Expr}
use Rattle.away_trees.specs.declared.queries.Expr.TheVariants as expr
use Rattle.away_trees.specs.declared.queries.FromItem.{FromItem}
use Rattle.away_trees.specs.declared.queries.Select.{Select}
use Rattle.away_trees.specs.declared.queries.Query.{Query}
use Rattle.away_trees.specs.Algebra.{expr_of, from_of, select_of, query_of}
use Rattle.away_values.specs.declared.operators.CmpOp.TheVariants as cmp
use Rattle.sql_meaning.specs.Trees.{col, number}
use Rattle.call_forms.specs.Template.{is_not_true}
use Rattle.tree_events.specs.declared.events.Kind.TheVariants as kind
use Rattle.tree_events.specs.declared.events.Manner.TheVariants.{Whole}
use Rattle.tree_events.specs.declared.events.TreeEvent.TheVariants as event
use Rattle.tree_events.specs.Events.{Put, node, leaf, row, shaping}
use Rattle.away_values.specs.declared.types.Ty.{Ty}
use Rattle.sql_meaning.specs.Template as template
use Rattle.cte_reads.specs.Read.{kind_of}
use Rattle.cte_reads.specs.declared.reading.Node.{Node}
use Rattle.cte_reads.specs.declared.parts.Gate.{Gate}
use Rattle.cte_reads.specs.declared.parts.Gate.TheVariants as gate

abbrev pub expr_put : Expr → Put
expr_put e = expr_of (shaping Whole) e

abbrev pub from_put : FromItem → Put
from_put i = from_of (shaping Whole) i

abbrev pub select_put : Select → Put
select_put s = select_of (shaping Whole) s

abbrev pub query_put : Query → Put
query_put q = query_of (shaping Whole) q

-- expressions, one behind the other
abbrev pub exprs_put : List Expr → Put
exprs_put = row expr_put

-- the items that a select still has, and its list behind them
abbrev pub body_put : List FromItem → List Expr → Put
body_put items list rest = row from_put items (event.Close ∷ event.Open kind.List ∷ exprs_put list (event.Close ∷ rest))

-- ORDER BY and LIMIT, which are missing, and the select's end
abbrev pub end_put : Put
end_put rest = event.Open kind.Order ∷ event.Close ∷ event.Open kind.Limit ∷ event.Close ∷ event.Leave ∷ rest

-- the same, where WHERE is missing too
abbrev pub no_filter_put : Put
no_filter_put rest = event.Open kind.Filter ∷ event.Close ∷ end_put rest

-- LATERAL ( up to its selects
abbrev pub lateral_put : Put
lateral_put rest = event.Open (kind.Sub true) ∷ event.Open kind.Query ∷ event.Open kind.With ∷ event.Close ∷ rest

-- ) behind its selects
abbrev pub lateral_end_put : Put
lateral_end_put rest = event.Close ∷ event.Close ∷ rest

-- a node without parts in a cast
abbrev pub cast_put : Ty → Node → Put
cast_put t inside = node (kind.Cast t) (leaf (kind_of inside))

-- the row has the label that is n-th, counted from 0
abbrev pub label_is : ℕ → Expr
label_is n = expr.Compare cmp.Eq (col 2 0 1) (number (pos (suc n)))

-- what a body is behind
abbrev pub condition : Gate → Expr
condition (gate.Label n) = label_is n
condition (gate.Yes m) = col 2 m 0
condition (gate.No m) = is_not_true (col 2 m 0)

-- a select up to the items behind its gate
abbrev pub open_put : Gate → Put
open_put g rest = event.Enter ∷ event.Open kind.From ∷ from_put (template.gate (condition g)) rest
