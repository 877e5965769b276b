use Rattle.std.proofs.Common.{arith}
use Rattle.inline_law.specs.Written.{cast_arguments}
use Rattle.inline_calls.proofs.StartRules.{cast_done}
use Rattle.inline_calls.proofs.starts.cast_arguments.Goals as goal

pub returns : goal.returns
returns c =
    let es = c.args.es.now in
    cast_done c.loop-e.done (cast_arguments c.args.types.now es) c.loop-e.left.now es c.loop-e.e-index (omega (arith, c.loop-e-test.false)) c.loop-e.invariant
