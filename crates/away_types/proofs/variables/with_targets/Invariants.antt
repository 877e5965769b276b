use Rattle.std.proofs.Common.{◌≡◌, ◌++◌, ℕ, List, Option, take, map}
use Rattle.away_types.specs.Statements.{picked_for}
use Rattle.away_types.proofs.variables.with_targets.Given as goal

abbrev pub invariant-loop-t : goal.invariant-loop-t
invariant-loop-t l = l.picked ≡ l.fn.slots.picked ++ map (λ (t : List ℕ × Option ℕ). picked_for l.fn.slots.shown t.1) (take l.t-index l.targets)
