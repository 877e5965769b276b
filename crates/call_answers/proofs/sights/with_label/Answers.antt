use Rattle.std.proofs.Common.{rules}
use Rattle.call_answers.proofs.Pairs.{entered_more}
use Rattle.call_answers.proofs.sights.with_label.Goals as goal

pub returns : goal.returns
returns c = entered_more c.push.new.self c.in_ok-all.all c.args.list.now c.in_ok-copy.field-0 c.args.own.now c.in_ok-copy-2.field-0 c.args.new.now (search rules) (search rules) (search rules) (search rules)
