use Rattle.std.proofs.Common.{◌≡◌, ◌++◌, take}
use Rattle.block_forms.specs.Slots.{param_slots, types_of}
use Rattle.block_forms.proofs.shown_types.push_params.Given as goal

abbrev pub invariant-loop-i : goal.invariant-loop-i
invariant-loop-i l = l.list ≡ l.fn.list ++ types_of (param_slots (take l.i l.params))
