use Rattle.function_places.proofs.HavePlaces.{have_places}
use Rattle.function_places.proofs.node_laws.each_node_has_a_place.Goals as goal

pub returns : goal.returns
returns c = λ ts x rest k d small. have_places d k small
