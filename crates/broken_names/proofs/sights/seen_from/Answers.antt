use Rattle.std.proofs.Common.{sym, ◌∙◌}
use Rattle.std.proofs.lemmas.List.{at_drop_all}
use Rattle.away_names.specs.Places.{scope}
use Rattle.broken_names.proofs.SeenItems.{seen_behind, from_is}
use Rattle.broken_names.proofs.sights.seen_from.Goals as goal

pub returns : goal.returns
returns c =
    let s = scope c.args.s.now in
    sym (c.loop-f.invariant ∙ at_drop_all (seen_behind s c.loop-f.seen) c.args.from.now c.loop-f.f-index c.loop-f-test.false) ∙ from_is s c.args.from.now
