use Rattle.std.proofs.Common.{rules, ◌≡◌, true}
use Rattle.away_trees.specs.declared.queries.Expr.TheVariants as e
use Rattle.away_trees.specs.declared.queries.Key.{out-Key}
use Rattle.away_names.specs.Naming.{is_alias}
use Rattle.away_names.specs.Trees.{alone_of}
use Rattle.broken_names.specs.Holds.{aliases}
use Rattle.broken_names.proofs.SingleNames.{key_here}
use Rattle.broken_names.proofs.single_names.broken_key.Goals as goal

pub returns-in_ok-copy-in-Named : goal.returns-in_ok-copy-in-Named
returns-in_ok-copy-in-Named c =
    let is : (out-Key c.args.key.now).expr ≡ e.Named c.in-Named.n = c.in-Named.is in
    let alias : is_alias (aliases c.args.list.now) (alone_of (out-Key c.args.key.now).expr) ≡ true = search rules in
    key_here c.if-not-is_rule.ensures is alias c.in_ok-copy-in-Named.ensures
