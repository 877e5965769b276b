use Rattle.std.proofs.Common.{◌≡◌, ◌++◌, drop, map}
use Rattle.call_forms.specs.Columned.{type_of_name}
use Rattle.tail_rec.specs.Columns.{places_at, places_of}
use Rattle.tail_rec.proofs.places.places_of.Given as goal

abbrev pub invariant-loop-label : goal.invariant-loop-label
invariant-loop-label l = l.places ++ map (places_at (type_of_name l.slots l.names) l.blocks l.starts) (drop l.label-index l.labels) ≡ places_of (type_of_name l.slots l.names) l.blocks l.starts l.labels
