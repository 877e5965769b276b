-- The slots that an expression reads, by its events in the order of reading.
use Rattle.std.specs.Prelude.{◌≡◌, ℕ, List, [], ◌∷◌, Option, Some, None}
use Rattle.away_trees.specs.declared.queries.Expr.{Expr}
use Rattle.sql_meaning.specs.Reads.{first_occurrences, slots_of}
use Rattle.tree_events.specs.declared.events.Kind.{Kind}
use Rattle.tree_events.specs.declared.events.Kind.TheVariants as kind
use Rattle.tree_events.specs.declared.events.Manner.TheVariants.{Reading}
use Rattle.tree_events.specs.declared.events.TreeEvent.TheVariants as event
use Rattle.tree_events.specs.Events.{Events, events_of_expr}

abbrev pub slot_of_kind : Kind → Option ℕ
slot_of_kind (kind.Slot i) = Some i
slot_of_kind _ = None

abbrev pub before : Option ℕ → List ℕ → List ℕ
before None slots = slots
before (Some i) slots = i ∷ slots

abbrev pub slots_in : Events → List ℕ
slots_in [] = []
slots_in (event.Open k ∷ ss) = before (slot_of_kind k) (slots_in ss)
slots_in (_ ∷ ss) = slots_in ss

abbrev pub EventsDetermineSlots : Type 0
EventsDetermineSlots = (e : Expr) → first_occurrences (slots_in (events_of_expr Reading e)) ≡ slots_of e
