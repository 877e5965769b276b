use Rattle.std.proofs.Common.{rules, ◌≡◌, ◌++◌, codes, subst, sym, arith}
use Rattle.std.specs.Fmt.{decimal}
use Rattle.std.proofs.lemmas.Grind.{common_steps}
use Rattle.away_values.specs.Words.{IsName}
use Rattle.cte_parts.proofs.ColumnNames.{alias_is_name}
use Rattle.cte_parts.proofs.names.alias_name.Goals as goal

pub name_that_is-requires : goal.name_that_is-requires
name_that_is-requires c =
    let spelled : c.deref.result.now ≡ codes "away_k" ++ decimal c.args.number = first_of (search rules, grind (arith, common_steps)) in
    subst IsName (sym spelled) (alias_is_name c.args.number c.ranges.number.fits)
