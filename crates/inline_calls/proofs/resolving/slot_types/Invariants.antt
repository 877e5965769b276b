use Rattle.std.proofs.Common.{◌≡◌, ◌++◌, drop, map}
use Rattle.inline_calls.proofs.resolving.slot_types.Given as goal

abbrev pub invariant-loop-call : goal.invariant-loop-call
invariant-loop-call l = l.all ++ map (λ es. l.ty) (drop l._call-index l.calls) ≡ map (λ es. l.ty) l.calls
