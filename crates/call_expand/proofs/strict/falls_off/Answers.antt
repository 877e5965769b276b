use Rattle.std.proofs.Common.{ap}
use Rattle.std.specs.Str.{chars}
use Rattle.away_trees.specs.declared.statements.Raised.TheVariants as raised
use Rattle.away_trees.specs.declared.statements.Stmt.TheVariants as stmt
use Rattle.call_expand.proofs.StrictRules.{there}
use Rattle.call_expand.proofs.strict.falls_off.Goals as goal

pub returns-in-Some : goal.returns-in-Some
unfolding chars
returns-in-Some c = ap (λ w. stmt.Raise (raised.State w)) (there _ _ c.in_ok-word.field-0 c.in-Some.state c.in-Some.is c.in_ok-word.ensures).1
