use Rattle.function_places.proofs.NodeSteps.{begun, body_here, found_here, found_on, into_body, number_0, one_more}
use Rattle.function_places.proofs.node_places.in_body.Goals as goal

pub returns-then-node-eq0 : goal.returns-then-node-eq0
returns-then-node-eq0 c = found_here _ (begun _ _ _) (number_0 c.if-node-eq0.true (body_here c.in_ok-body_of.ensures.found)) c.left-here.ensures

pub returns : goal.returns
returns c = found_on (one_more c.if-node-eq0.false (into_body c.in_ok-eat_label.ensures.taken)) _ c.in_block.ensures
