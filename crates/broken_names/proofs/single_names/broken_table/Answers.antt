use Rattle.std.proofs.Common.{rules, ◌≡◌, None}
use Rattle.away_names.specs.Places.{scope}
use Rattle.broken_names.proofs.SingleNames.{table_here}
use Rattle.broken_names.proofs.single_names.broken_table.Goals as goal

pub returns-in_ok-copy-in-None : goal.returns-in_ok-copy-in-None
returns-in_ok-copy-in-None c =
    let unknown : (scope c.args.s.now).table c.args.n.now ≡ None = search rules in
    table_here c.if-not-is_rule.ensures unknown c.in_ok-copy-in-None.ensures
