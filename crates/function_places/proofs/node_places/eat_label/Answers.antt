use Rattle.function_places.proofs.NodeSteps.{label_taken}
use Rattle.function_places.proofs.node_places.eat_label.Goals as goal

pub returns-in_ok-expect-clause-taken : goal.returns-in_ok-expect-clause-taken
returns-in_ok-expect-clause-taken c = label_taken _ c.if-eat.ensures.yes c.in_ok-name.ensures.found c.in_ok-name.ensures.rest c.in_ok-expect.ensures.found
