use Rattle.std.proofs.Common.{◌≡◌, ◌+◌, ◌-◌, ◌++◌}
use Rattle.call_expand.specs.Untailing.{moves}
use Rattle.call_expand.proofs.turns.moves.Given as goal

abbrev pub invariant-loop-t : goal.invariant-loop-t
invariant-loop-t l = (l.to ≡ l.i + l.t) × (l.from ≡ l.j + l.t) × (l.all ++ moves l.names (l.n - l.t) l.to l.from ≡ moves l.names l.n l.i l.j)
