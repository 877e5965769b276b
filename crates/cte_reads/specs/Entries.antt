-- The expressions of a function by their events.
use Rattle.std.specs.Prelude.{◌≡◌, ◌↔◌, ℕ, List, length, get_or, IsTrue}
use Rattle.away_trees.specs.declared.queries.Expr.{Expr}
use Rattle.away_trees.specs.declared.queries.Expr.TheVariants as expr
use Rattle.away_trees.specs.declared.queries.Col.{Col}
use Rattle.away_trees.specs.declared.queries.FromItem.{FromItem}
use Rattle.away_values.specs.declared.types.Ty.{Ty}
use Rattle.sql_meaning.specs.Placed.{placed_at}
use Rattle.sql_meaning.specs.Reads.{slots_of}
use Rattle.sql_meaning.specs.Template.{let_item}
use Rattle.block_forms.specs.declared.forms.Term.{Term}
use Rattle.block_forms.specs.Places.{EachPair}
use Rattle.call_forms.specs.Scopes.{Scope, paired}
use Rattle.call_forms.specs.Template.{outside, deeper, no_column}
use Rattle.tree_events.specs.declared.events.Manner.TheVariants.{Whole}
use Rattle.tree_events.specs.Events.{events_of_expr}
use Rattle.cte_reads.specs.declared.entries.Entry.{Entry}
use Rattle.cte_reads.specs.declared.entries.Entries as code

-- the expression by its events
pub record EntryOf (e : Expr) (x : Entry) : Type 0 where
  pub events : x.events ≡ events_of_expr Whole e
  pub slots : x.slots ≡ slots_of e
  pub null : IsTrue x.is_null ↔ (e ≡ expr.Null)

-- the expressions by number, and NULL
pub record EntriesOf (table : List Expr) (x : code.Entries) : Type 0 where
  pub as_many : length x.list ≡ length table
  pub each : EachPair (λ i e y. EntryOf e y) table x.list
  pub null : EntryOf expr.Null x.null

-- `SELECT e` for a term, where its slots are the columns of its names, as the template has it
abbrev pub let_at : List Expr → ℕ → Scope Col → Ty → Term → FromItem
let_at table out refs t u =
    let e : Expr = get_or table u.expr expr.Null in
    let_item (placed_at t (paired (outside refs) (deeper (no_column out)) (slots_of e) u.names) e)
