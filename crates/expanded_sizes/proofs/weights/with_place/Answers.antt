use Rattle.expanded_sizes.proofs.WeighingRules.{place_inside}
use Rattle.expanded_sizes.proofs.weights.with_place.Goals as goal

pub with_call-requires : goal.with_call-requires
with_call-requires c = record {
  known = c.requires.known;
  inside = place_inside c.args.g.fs.now c.args.e.now c.call_place.result
      c.in-Some.c c.call_place.ensures c.in-Some.is;
}
