-- The events of an expression with columns for its slots, one after the other.
use Rattle.std.specs.Prelude.{ℕ, zero, suc, List, ◌∷◌}
use Rattle.away_trees.specs.declared.queries.Col.{Col}
use Rattle.call_forms.specs.Template.{deeper}
use Rattle.tree_events.specs.Placing.{placed_kind}
use Rattle.tree_events.specs.Events.{Put}
use Rattle.tree_events.specs.declared.events.TreeEvent.{TreeEvent}
use Rattle.tree_events.specs.declared.events.TreeEvent.TheVariants as event
use Rattle.sql_meaning.specs.Placed.{further}
use Rattle.cte_reads.specs.declared.lets.Depth.{Depth}
use Rattle.cte_reads.specs.declared.scope.Ref.{Ref}
use Rattle.cte_reads.specs.References.{lookup, ref_or, col_at}

-- what a slot stands for, one select further in than the references
abbrev pub slot_column : ℕ → List ℕ → List Ref → ℕ → Col
slot_column out slots refs i = deeper (col_at out (ref_or (lookup slots refs i)))

-- the same, seen from a place in the expression
abbrev pub slot_column_in : Depth → List ℕ → List Ref → ℕ → Col
slot_column_in depth slots refs i = further depth.within (col_at depth.out (ref_or (lookup slots refs i)))

-- one less, but at least one
abbrev pub one_less_within : ℕ → ℕ
one_less_within zero = 1
one_less_within (suc zero) = 1
one_less_within (suc (suc n)) = suc n

-- how deep what follows a event stands
abbrev pub depth_behind : TreeEvent → Depth → Depth
depth_behind event.Enter d = record d { within = suc d.within }
depth_behind event.Leave d = record d { within = one_less_within d.within }
depth_behind (event.Open k) d = d
depth_behind event.Close d = d
depth_behind (event.Text t) d = d
depth_behind (event.Name n) d = d

abbrev pub placed_event_put : Depth → List ℕ → List Ref → TreeEvent → Put
placed_event_put depth slots refs (event.Open k) rest = placed_kind (slot_column_in depth slots refs) 0 k rest
placed_event_put depth slots refs event.Close rest = event.Close ∷ rest
placed_event_put depth slots refs event.Enter rest = event.Enter ∷ rest
placed_event_put depth slots refs event.Leave rest = event.Leave ∷ rest
placed_event_put depth slots refs (event.Text t) rest = event.Text t ∷ event.Close ∷ rest
placed_event_put depth slots refs (event.Name n) rest = event.Name n ∷ rest
