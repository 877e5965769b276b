use Rattle.turn_template.specs.TurnTemplate.{choices}
use Rattle.turn_terms.specs.Sameness.{same}
use Rattle.turn_query.proofs.CellRules.{choices_short}
use Rattle.turn_query.proofs.cells.choices.Goals as goal

pub returns-then-i-no : goal.returns-then-i-no
returns-then-i-no c =
    choices_short same c.args.condition.now c.args.yes.now c.args.no.now c.loop-i.i (choices same c.args.condition.now c.args.yes.now c.args.no.now) c.loop-i.list
    c.if-i-no.true c.loop-i.invariant
