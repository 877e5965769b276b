use Rattle.std.proofs.Common.{ap, sym, ◌∙◌}
use Rattle.turn_bodies.specs.Testing.{closed}
use Rattle.turn_bodies.specs.Trees.{as_body}
use Rattle.turn_bodies.proofs.ClosedTrees.{closed_sets, closed_enters, closed_first, closed_second}
use Rattle.turn_bodies.proofs.checks.+is_closed.Goals as goal

pub returns-in-Sets : goal.returns-in-Sets
returns-in-Sets t c =
    closed_sets c.args.bound c.is_closed.result c.args.body.now c.get.result.now c.in-Sets.rest c.is_closed.ensures c.get.ensures c.in-Sets.field-0
    c.in-Sets.field-1 c.in-Sets.is

pub returns-in-Enters : goal.returns-in-Enters
returns-in-Enters t c =
    closed_enters c.args.bound c.is_closed-in-Enters.result c.args.body.now c.get-in-Enters.result.now c.in-Enters.rest c.is_closed-in-Enters.ensures
    c.get-in-Enters.ensures c.in-Enters.field-0 c.in-Enters.field-1 c.in-Enters.is

pub returns-then-is_closed : goal.returns-then-is_closed
returns-then-is_closed t c =
    closed_second c.args.bound c.is_closed-then-is_closed.result c.args.body.now c.get-then-is_closed.result.now c.in-Picks.no
    c.is_closed-then-is_closed.ensures c.get-then-is_closed.ensures c.in-Picks.field-0 c.in-Picks.yes c.in-Picks.is
    (sym (ap (λ x. closed c.args.bound (as_body x)) c.get-in-Picks.ensures) ∙ (sym c.is_closed-in-Picks.ensures ∙ c.if-is_closed.true))

pub returns-else-is_closed : goal.returns-else-is_closed
returns-else-is_closed t c =
    closed_first c.args.bound c.is_closed-in-Picks.result c.args.body.now c.get-in-Picks.result.now c.in-Picks.yes c.is_closed-in-Picks.ensures
    c.get-in-Picks.ensures c.in-Picks.field-0 c.in-Picks.no c.in-Picks.is c.if-is_closed.false
