use Rattle.away_top.proofs.ToldPlaces.{told_so}
use Rattle.away_top.proofs.explanation.explanation.Goals as goal

pub returns : goal.returns
returns c =
    told_so c.args.name.now c.args.bytes.now c.args.offset c.args.rule.now c.args.reason.now c.in_ok-display.display c.in_ok-output.output.items c.extend_from_slice.new.self.items c.deref.result.now
    c.in_ok-display.ensures c.in_ok-output.ensures c.deref.ensures.value c.in_ok-extend_from_slice.ensures.items
