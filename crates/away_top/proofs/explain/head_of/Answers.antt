use Rattle.std.proofs.Common.{arith}
use Rattle.away_top.proofs.Counting.{same_own}
use Rattle.away_top.proofs.explain.head_of.Goals as goal

pub nodes-requires : goal.nodes-requires
nodes-requires c = let few = c.requires.few_nodes in omega arith

pub returns : goal.returns
returns c = same_own _ _ _ _ _ _ _ _ c.nodes.ensures c.in-Some.ensures.variables c.in-Some.ensures.loops c.len.ensures
