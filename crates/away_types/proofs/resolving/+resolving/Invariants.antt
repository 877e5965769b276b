use Rattle.std.proofs.Common.{◌≡◌, drop, fold}
use Rattle.away_types.specs.Statements.{with_resolved}
use Rattle.away_types.specs.ResolvedBodies.{spot, resolved_stmt, resolved_arm, resolved_body, resolved_arms}
use Rattle.away_types.proofs.resolving.+resolving.Given as goal

abbrev pub invariant-resolved_body-loop-s : goal.invariant-resolved_body-loop-s
invariant-resolved_body-loop-s l =
    resolved_body (spot l.spot) l.fn.slots l.list ≡ fold (λ a x. with_resolved a (resolved_stmt (spot l.spot) a.slots x)) (record { it = l.done; note = l.note; slots = l.so_far }) (drop l.s-index l.list)

abbrev pub invariant-resolved_arms-loop-a : goal.invariant-resolved_arms-loop-a
invariant-resolved_arms-loop-a l =
    resolved_arms (spot l.spot) l.fn.slots l.list ≡ fold (λ a x. with_resolved a (resolved_arm (spot l.spot) a.slots x)) (record { it = l.done; note = l.note; slots = l.so_far }) (drop l.a-index l.list)
