use Rattle.std.proofs.Common.{rules}
use Rattle.call_answers.proofs.Pairs.{is_new_at}
use Rattle.call_answers.proofs.sights.is_new.Goals as goal

pub returns : goal.returns
returns c = λ yes. is_new_at c.args.own.now c.args.list.now c.loop-p.p-index (search rules) c.loop-p.invariant
