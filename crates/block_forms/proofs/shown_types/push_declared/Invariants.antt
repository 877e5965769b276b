use Rattle.std.proofs.Common.{◌≡◌, ◌++◌, take}
use Rattle.block_forms.specs.Slots.{declared_slots, types_of}
use Rattle.block_forms.proofs.shown_types.push_declared.Given as goal

abbrev pub invariant-loop-i : goal.invariant-loop-i
invariant-loop-i l = l.list ≡ l.fn.list ++ types_of (declared_slots (take l.i l.decls))
