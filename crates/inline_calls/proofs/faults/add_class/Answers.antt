use Rattle.std.proofs.Common.{◌∙◌, sym, arith}
use Rattle.inline_calls.proofs.FaultRules.{place_within}
use Rattle.inline_calls.proofs.faults.add_class.Goals as goal

pub insert-requires : goal.insert-requires
insert-requires c =
    let le = place_within c.args.class.now c.deref.result.now c.in-Some.at (sym c.place_of.ensures ∙ c.in-Some.is) in
    let long = c.deref.ensures.len in
    omega (arith, le, long)
