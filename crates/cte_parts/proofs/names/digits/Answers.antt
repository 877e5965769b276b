use Rattle.std.proofs.Common.{rules, ◌≡◌, subst, sym, arith}
use Rattle.std.specs.Fmt.{decimal}
use Rattle.std.proofs.lemmas.Grind.{common_steps}
use Rattle.away_values.specs.Words.{IsName}
use Rattle.cte_parts.proofs.ColumnNames.{digits_are_name}
use Rattle.cte_parts.proofs.names.digits.Goals as goal

pub name_that_is-requires : goal.name_that_is-requires
name_that_is-requires c =
    let spelled : c.format.result.now ≡ decimal c.args.place = first_of (search rules, grind (arith, common_steps)) in
    subst IsName (sym spelled) (digits_are_name c.args.place c.ranges.place.fits)
