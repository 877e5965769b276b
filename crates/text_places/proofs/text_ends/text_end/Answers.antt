use Rattle.std.proofs.Common.{subst, sym, take}
use Rattle.std.specs.Str.{IsValidUpTo}
use Rattle.text_places.proofs.Fronts.{front_ends}
use Rattle.text_places.proofs.text_ends.text_end.Goals as goal

pub returns-in-Err : goal.returns-in-Err
returns-in-Err c = front_ends c.args.bytes.now c.zero_or_end-end.result _ c.zero_or_end-end.ensures.within c.zero_or_end-end.ensures.none c.zero_or_end-end.ensures.stops
    (subst (IsValidUpTo (take c.zero_or_end-end.result c.args.bytes.now)) (sym c.valid_up_to.ensures) (c.in-Err.ensures.cases.1))
