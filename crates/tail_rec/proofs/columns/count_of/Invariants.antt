use Rattle.std.proofs.Common.{◌≡◌, ◌≤◌, ◌+◌, drop}
use Rattle.call_forms.specs.Columned.{type_of_name}
use Rattle.tail_rec.specs.Columns.{count_of}
use Rattle.tail_rec.proofs.columns.count_of.Given as goal

abbrev pub invariant-loop-name : goal.invariant-loop-name
invariant-loop-name l = (l.count ≤ l.name-index) × (l.count + count_of (type_of_name l.slots l.names) l.t (drop l.name-index l.params) ≡ count_of (type_of_name l.slots l.names) l.t l.params)
