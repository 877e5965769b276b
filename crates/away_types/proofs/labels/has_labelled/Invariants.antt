use Rattle.std.proofs.Common.{◌≡◌, drop}
use Rattle.std.specs.List.{list_any}
use Rattle.away_types.specs.StatementRules.{has_label}
use Rattle.away_types.proofs.labels.has_labelled.Given as goal

abbrev pub invariant-loop-a : goal.invariant-loop-a
invariant-loop-a l = list_any (has_label l.l) l.around ≡ list_any (has_label l.l) (drop l.a-index l.around)
