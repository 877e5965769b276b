use Rattle.std.proofs.Common.{arith}
use Rattle.broken_names.proofs.ReasonLines.{parameter_line}
use Rattle.broken_names.proofs.reasons.parameter.Goals as goal

pub returns-clause-line : goal.returns-clause-line
returns-clause-line c = parameter_line c.args.number (omega (arith, c.ranges.number.fits))
