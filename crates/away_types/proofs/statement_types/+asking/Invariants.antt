use Rattle.std.proofs.Common.{◌≡◌, drop, fold}
use Rattle.away_types.specs.Findings.{followed}
use Rattle.away_types.specs.AskedBy.{asked_by}
use Rattle.away_types.specs.StatementTypes.{asked_stmt, asked_arm, asked_body, asked_arms}
use Rattle.away_types.proofs.statement_types.+asking.Given as goal

abbrev pub invariant-asked_body-loop-s : goal.invariant-asked_body-loop-s
invariant-asked_body-loop-s l =
    asked_body (asked_by l.a) l.list ≡ fold (λ r x. followed r (asked_stmt (asked_by l.a) x)) l.note (drop l.s-index l.list)

abbrev pub invariant-asked_arms-loop-arm : goal.invariant-asked_arms-loop-arm
invariant-asked_arms-loop-arm l =
    asked_arms (asked_by l.a) l.list ≡ fold (λ r x. followed r (asked_arm (asked_by l.a) x)) l.note (drop l.arm-index l.list)
