use Rattle.expanded_sizes.proofs.WeighingRules.{place_inside}
use Rattle.expanded_sizes.proofs.depths.place_depth.Goals as goal

pub call_depth-requires : goal.call_depth-requires
call_depth-requires c = record {
  known = c.requires.known;
  inside = place_inside c.args.g.fs.now c.args.e.now c.call_place.result
      c.in-Some.c c.call_place.ensures c.in-Some.is;
}
