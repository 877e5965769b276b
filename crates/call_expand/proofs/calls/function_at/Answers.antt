use Rattle.std.proofs.Common.{sym}
use Rattle.call_expand.proofs.JudgingRules.{function_is}
use Rattle.call_expand.proofs.calls.function_at.Goals as goal

pub returns-then-i-fs : goal.returns-then-i-fs
returns-then-i-fs c = sym (function_is c.args.fs.now c.args.i c.index-fs-i.result c.if-i-fs.true c.index-fs-i.is)
