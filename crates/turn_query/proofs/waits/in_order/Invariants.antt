use Rattle.std.proofs.Common.{◌≡◌, drop}
use Rattle.turn_query.specs.Filled.{in_order}
use Rattle.turn_query.proofs.waits.in_order.Given as goal

abbrev pub invariant-loop-i : goal.invariant-loop-i
invariant-loop-i l =
    in_order l.w l.waits (drop l.done l.waits) l.i l.places l.args (drop l.i l.w.columns.now) ≡ in_order l.w l.waits l.waits 0 l.places l.args l.w.columns.now
