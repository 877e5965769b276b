use Rattle.std.proofs.Common.{arith, ◌<◌, length, drop, length-drop}
use Rattle.away_lex.proofs.Steps.{number_over}
use Rattle.away_lex.proofs.pieces.number.Goals as goal

pub returns-then-value-limit-clause-none : goal.returns-then-value-limit-clause-none
returns-then-value-limit-clause-none c =
    let rest = drop c.loop-digit.digit-index c.args.digits.now in
    let some : 0 < length rest = omega (arith, length-drop c.loop-digit.digit-index c.args.digits.now) in
    omega (arith, number_over c.args.limit c.loop-digit.value rest c.if-value-limit.true some, c.loop-digit.invariant)
