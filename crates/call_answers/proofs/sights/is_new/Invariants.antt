use Rattle.std.proofs.Common.{drop}
use Rattle.call_answers.proofs.Pairs.{NoneIs}
use Rattle.call_answers.proofs.sights.is_new.Given as goal

abbrev pub invariant-loop-p : goal.invariant-loop-p
invariant-loop-p l = NoneIs l.own (drop l.p-index l.list) → NoneIs l.own l.list
