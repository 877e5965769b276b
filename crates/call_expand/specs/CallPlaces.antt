-- A call place by its tree.
use Rattle.std.specs.Prelude.{List, Option, Some, None}
use Rattle.away_trees.specs.declared.queries.Expr.{Expr}
use Rattle.away_names.specs.Lookups.{Name}
use Rattle.call_meaning.specs.Calls.{Called}
use Rattle.call_expand.specs.Expanding.{call_place}
use Rattle.call_expand.specs.declared.places.Place.{Place}

-- what the code's is to the definitions
abbrev pub called : Place → Called
called p = record { conversion = None; part = p.part; args = p.args.now }

abbrev pub maybe_called : Option Place → Option Called
maybe_called None = None
maybe_called (Some p) = Some (called p)

unfoldable pub place_of : List Name → Expr → Option Called
place_of names e = call_place names e
