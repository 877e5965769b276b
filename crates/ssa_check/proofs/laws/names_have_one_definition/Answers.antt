use Rattle.std.proofs.Common.{slice_get}
use Rattle.ssa_check.proofs.DefinitionsFirst.{reads_what_is_set}
use Rattle.ssa_check.proofs.InSight.{block_beside, reads_in_sight}
use Rattle.ssa_check.proofs.NamedLaws.{has_one, parameters_unset, no_phi}
use Rattle.ssa_check.proofs.Predecessors.{operands_are_predecessors}
use Rattle.ssa_check.proofs.laws.names_have_one_definition.Goals as goal

pub returns : goal.returns
returns c = record {
  definitions = λ slots params g z named n. has_one slots params g z named n;
  parameters = λ slots params g z named d n sets. parameters_unset slots params g z named d n sets;
  sight = λ slots params g z named b y there. let x = block_beside slots params g z named b y there in reads_in_sight z.names x.0 y (named.blocks b x.0 y x.1 there);
  paths = λ slots params g z named before b y path there. reads_what_is_set slots params g z named (λ n. has_one slots params g z named n) before b y path there;
  entry = λ slots params g z named. no_phi slots params g z named (slice_get z.blocks g.entry) named.entry;
  operands = λ slots params g z named c y there. record { each = λ i f at. operands_are_predecessors slots params g z named c f ((named.operands c y there).each i f at) };
}
