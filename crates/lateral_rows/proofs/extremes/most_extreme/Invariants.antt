use Rattle.std.proofs.Common.{◌≡◌, drop, fold}
use Rattle.std.specs.Option.{option_copied}
use Rattle.away_values.specs.Operators.{extreme}
use Rattle.away_values.specs.declared.values.Value.TheVariants as val
use Rattle.lateral_rows.specs.RowParts.{or_null}
use Rattle.lateral_rows.proofs.extremes.most_extreme.Given as goal

abbrev pub invariant-loop-i : goal.invariant-loop-i
invariant-loop-i l = fold (extreme l.greatest) val.Null l.list ≡ fold (extreme l.greatest) (or_null (option_copied l.best)) (drop l.i l.list)
