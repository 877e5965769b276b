-- The events of an expression with columns for its slots and casts round its literals, by the
-- events of the expression.
use Rattle.std.specs.Prelude.{◌≡◌, ℕ, zero, suc, [], ◌∷◌}
use Rattle.away_values.specs.declared.types.Ty.TheVariants as ty
use Rattle.away_values.specs.Operators.{literal_type}
use Rattle.away_trees.specs.declared.queries.Col.{Col}
use Rattle.away_trees.specs.declared.queries.Expr.{Expr}
use Rattle.sql_meaning.specs.Placed.{further, placed}
use Rattle.tree_events.specs.declared.events.Kind.{Kind}
use Rattle.tree_events.specs.declared.events.Kind.TheVariants as kind
use Rattle.tree_events.specs.declared.events.Manner.TheVariants.{Whole}
use Rattle.tree_events.specs.declared.events.TreeEvent.TheVariants as event
use Rattle.tree_events.specs.Events.{Events, events_of_expr}

-- a node's first event, d selects deep
abbrev pub placed_kind : (ℕ → Col) → ℕ → Kind → Events → Events
placed_kind ref d (kind.Slot i) rest = event.Open (kind.Column (further d (ref i))) ∷ rest
placed_kind ref d (kind.Int n) rest =
    event.Open (kind.Cast (literal_type n)) ∷ event.Open (kind.Int n) ∷ event.Close ∷ rest
placed_kind ref d (kind.Bool v) rest = event.Open (kind.Cast ty.Boolean) ∷ event.Open (kind.Bool v) ∷ event.Close ∷ rest
placed_kind ref d kind.Str rest = event.Open (kind.Cast ty.Text) ∷ event.Open kind.Str ∷ rest
placed_kind ref d k rest = event.Open k ∷ rest

-- one less, where there is one
abbrev pub one_less : ℕ → ℕ
one_less zero = zero
one_less (suc d) = d

abbrev pub placed_events : (ℕ → Col) → ℕ → Events → Events
placed_events ref d [] = []
placed_events ref d (event.Open k ∷ ss) = placed_kind ref d k (placed_events ref d ss)
placed_events ref d (event.Close ∷ ss) = event.Close ∷ placed_events ref d ss
placed_events ref d (event.Enter ∷ ss) = event.Enter ∷ placed_events ref (suc d) ss
placed_events ref d (event.Leave ∷ ss) = event.Leave ∷ placed_events ref (one_less d) ss
placed_events ref d (event.Text t ∷ ss) = event.Text t ∷ event.Close ∷ placed_events ref d ss
placed_events ref d (event.Name n ∷ ss) = event.Name n ∷ placed_events ref d ss

abbrev pub EventsOfPlaced : Type 0
EventsOfPlaced = (ref : ℕ → Col) (e : Expr) → events_of_expr Whole (placed ref e) ≡ placed_events ref 0 (events_of_expr Whole e)
