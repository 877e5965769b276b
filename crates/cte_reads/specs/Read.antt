-- What reading at a place of a query's events tells.
use Rattle.std.specs.Prelude.{◌≡◌, ℕ, suc, pos, drop, Option, Some, None, ◌↔◌}
use Rattle.tree_events.specs.declared.events.Kind.{Kind}
use Rattle.tree_events.specs.declared.events.Kind.TheVariants as kind
use Rattle.tree_events.specs.declared.events.TreeEvent.{TreeEvent}
use Rattle.tree_events.specs.declared.events.TreeEvent.TheVariants as event
use Rattle.tree_events.specs.Events.{Events, Put}
use Rattle.cte_reads.specs.declared.reading.Node.{Node}
use Rattle.cte_reads.specs.declared.reading.Node.TheVariants as node
use Rattle.cte_reads.specs.declared.reading.Wanted as code
use Rattle.cte_reads.specs.declared.reading.Wanted.TheVariants as want

abbrev pub kind_of : Node → Kind
kind_of (node.Of k) = k
kind_of (node.Column level item column) = kind.Column (record { level = level; item = item; column = column })
kind_of (node.Number n) = kind.Int (pos n)
kind_of (node.Behind n) = kind.Int (pos (suc n))
kind_of (node.Param i t) = kind.Param (suc i) t

abbrev pub event_of : code.Wanted → TreeEvent
event_of (want.Open n) = event.Open (kind_of n)
event_of want.Close = event.Close
event_of want.Enter = event.Enter
event_of want.Leave = event.Leave
event_of (want.Code c) = event.Text c.code
event_of (want.Text t) = event.Text t.now
event_of (want.Name n) = event.Name n.now

-- what is left of the events from a place on
abbrev pub left_at : Events → Option ℕ → Option Events
left_at events None = None
left_at events (Some k) = Some (drop k events)

-- From the one place the events are those that are put, and others behind, exactly where from the
-- other place they are these others.
pub record Reads (put : Put) (events : Events) (from to : Option ℕ) : Type 0 where
  pub told : (rest : Events) → (left_at events from ≡ Some (put rest)) ↔ (left_at events to ≡ Some rest)

-- The same where P holds; where it doesn't there is no place behind what is read.
pub record ReadsWhere (P : Type 0) (put : Put) (events : Events) (from to : Option ℕ) : Type 0 where
  pub told : (rest : Events) → (P × (left_at events from ≡ Some (put rest))) ↔ (left_at events to ≡ Some rest)
