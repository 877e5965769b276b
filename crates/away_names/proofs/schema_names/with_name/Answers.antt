use Rattle.std.proofs.Common.{rules, ◌≡◌}
use Rattle.std.specs.String.{string_bytes}
use Rattle.away_names.proofs.Doubles.{name_behind}
use Rattle.away_names.proofs.schema_names.with_name.Goals as goal

pub returns-in-Ok : goal.returns-in-Ok
returns-in-Ok c =
    let e : string_bytes c.in_ok-name.name ≡ c.args.n.now = search rules in
    name_behind _ _ _ _ e c.requires c.in-Ok.ensures.keys
