use Rattle.std.proofs.Common.{◌≡◌, ◌++◌, drop}
use Rattle.elaboration.specs.ConvertingLists.{around, arms_in, body_in}
use Rattle.elaboration.proofs.statements.+converting.Given as goal

abbrev pub invariant-body_converted-loop-s : goal.invariant-body_converted-loop-s
invariant-body_converted-loop-s l = l.done ++ body_in (around l.a) (drop l.s-index l.list) ≡ body_in (around l.a) l.list

abbrev pub invariant-arms_converted-loop-arm : goal.invariant-arms_converted-loop-arm
invariant-arms_converted-loop-arm l = l.done ++ arms_in (around l.a) (drop l.arm-index l.list) ≡ arms_in (around l.a) l.list
