use Rattle.std.proofs.Common.{◌≡◌, ℕ, List, Option, drop, fold}
use Rattle.away_names.specs.Notes.{added}
use Rattle.away_names.specs.Places.{scope}
use Rattle.away_types.specs.Statements.{target, targeted}
use Rattle.away_types.proofs.into.targeted.Given as goal

abbrev pub invariant-loop-t : goal.invariant-loop-t
invariant-loop-t l =
    targeted (scope l.s) l.targets ≡ fold (λ a (t : List ℕ × Option ℕ). added a (target (scope l.s) t.0)) (record { it = l.done; note = l.note }) (drop l.t-index l.targets)
