use Rattle.std.proofs.Common.{rules, ◌≡◌, ◌+◌, ◌++◌, codes, subst, sym, arith}
use Rattle.std.specs.Fmt.{decimal}
use Rattle.std.proofs.lemmas.Grind.{common_steps}
use Rattle.away_values.specs.Words.{IsName}
use Rattle.select_into.proofs.ColumnNames.{column_is_name}
use Rattle.select_into.proofs.wrapping.value_name.Goals as goal

pub name_that_is-requires : goal.name_that_is-requires
name_that_is-requires c =
    let spelled : c.deref.result.now ≡ codes "away_v" ++ decimal (c.args.place + 1) = first_of (search rules, grind (arith, common_steps)) in
    subst IsName (sym spelled) (column_is_name (c.args.place + 1) c.requires)
