use Rattle.function_places.proofs.Counting.{loops_counted, nodes_counted, variables_counted}
use Rattle.function_places.proofs.laws.kinds_are_counted.Goals as goal

pub returns : goal.returns
returns c = record { nodes = nodes_counted; variables = variables_counted; loops = loops_counted }
