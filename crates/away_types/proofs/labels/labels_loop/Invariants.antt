use Rattle.std.proofs.Common.{◌≡◌, drop, false}
use Rattle.away_types.specs.StatementRules.{labels_loop}
use Rattle.away_types.proofs.labels.labels_loop.Given as goal

abbrev pub invariant-loop-a : goal.invariant-loop-a
invariant-loop-a l = labels_loop l.l false l.around ≡ labels_loop l.l l.found (drop l.a-index l.around)
