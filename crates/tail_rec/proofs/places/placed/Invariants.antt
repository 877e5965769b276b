use Rattle.std.proofs.Common.{◌≡◌, ◌++◌, drop, length}
use Rattle.call_forms.specs.Columned.{type_of_name}
use Rattle.tail_rec.specs.Columns.{placed, HasRoom}
use Rattle.tail_rec.proofs.places.placed.Given as goal

abbrev pub invariant-loop-name : goal.invariant-loop-name
invariant-loop-name l = HasRoom l.free (length (drop l.name-index l.params)) × (l.places ++ placed (type_of_name l.slots l.names) l.free (drop l.name-index l.params) ≡ placed (type_of_name l.slots l.names) l.fn.starts l.params)
