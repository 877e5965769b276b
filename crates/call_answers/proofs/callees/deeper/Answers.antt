use Rattle.std.proofs.Common.{◌≡◌, ◌-◌, refl, arith, suc}
use Rattle.call_answers.proofs.PartRules.{deeper_is, part_is}
use Rattle.call_answers.proofs.callees.deeper.Goals as goal

pub returns-in-Some : goal.returns-in-Some
returns-in-Some c =
    let less : suc (c.args.g.now.expansion.depth - 1) ≡ c.args.g.now.expansion.depth = omega (arith, c.if-g-eq0.false) in
    deeper_is c.args.w.now _ c.args.g.now c.args.slot c.args.label.now c.in-Some.p.now _
    (part_is c.args.g.now.expansion.parts.now c.args.g.now.called.part c.in-Some.p.now c.in-Some.ensures.lookup.3.0 c.in-Some.ensures.lookup.3.1)
    refl refl c.as_slice.ensures refl refl refl less refl
