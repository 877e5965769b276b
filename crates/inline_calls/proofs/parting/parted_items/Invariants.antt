use Rattle.std.proofs.Common.{◌≡◌, ◌++◌, drop}
use Rattle.inline_calls.specs.Parting.{over, parted_items}
use Rattle.inline_calls.proofs.parting.parted_items.Given as goal

abbrev pub invariant-loop-i : goal.invariant-loop-i
invariant-loop-i l = over (λ xs. l.done ++ xs) (parted_items l.f (drop l.i-index l.list) l.calls) ≡ parted_items l.f l.list l.initial.calls
