use Rattle.std.proofs.Common.{◌≡◌, drop}
use Rattle.std.specs.List.{list_any}
use Rattle.away_names.specs.Lookups.{is_named}
use Rattle.away_names.proofs.lookups.offers.Given as goal

abbrev pub invariant-loop-column : goal.invariant-loop-column
invariant-loop-column l = list_any (is_named l.n) l.column-items ≡ list_any (is_named l.n) (drop l.column-index l.column-items)
