use Rattle.std.proofs.Common.{◌≡◌, drop}
use Rattle.std.specs.List.{position_from}
use Rattle.away_names.specs.Lookups.{is_named}
use Rattle.away_names.proofs.lookups.place_of.Given as goal

abbrev pub invariant-loop-column : goal.invariant-loop-column
invariant-loop-column l = (position_from (is_named l.n) 0 l.columns ≡ position_from (is_named l.n) l.i (drop l.column-index l.columns)) × (l.i ≡ l.column-index)
