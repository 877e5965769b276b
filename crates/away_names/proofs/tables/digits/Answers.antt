use Rattle.std.proofs.Common.{subst, sym}
use Rattle.away_values.specs.Words.{IsName}
use Rattle.away_names.proofs.Digits.{digits_are_name}
use Rattle.away_names.proofs.tables.digits.Goals as goal

pub name_that_is-requires : goal.name_that_is-requires
name_that_is-requires c = subst IsName (sym c.format.ensures.text) (digits_are_name c.args.place c.ranges.place.fits)
