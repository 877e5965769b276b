use Rattle.std.proofs.Common.{◌≡◌, ◌<◌, ◌^◌, drop}
use Rattle.call_forms.specs.Columned.{type_of_name}
use Rattle.tail_rec.specs.Columns.{most_of, needed}
use Rattle.tail_rec.proofs.columns.most_needed.Given as goal

abbrev pub invariant-loop-label : goal.invariant-loop-label
invariant-loop-label l = (l.most < 2 ^ 28) × (most_of (needed (type_of_name l.slots l.names) l.blocks l.t) l.most (drop l.label-index l.labels) ≡ most_of (needed (type_of_name l.slots l.names) l.blocks l.t) 0 l.labels)
