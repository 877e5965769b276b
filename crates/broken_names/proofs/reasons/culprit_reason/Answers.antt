use Rattle.std.proofs.Common.{string_bytes}
use Rattle.broken_names.proofs.ReasonLines.{reason_line, text_line}
use Rattle.broken_names.proofs.reasons.culprit_reason.Goals as goal

pub returns-clause-line : goal.returns-clause-line
returns-clause-line c =
    text_line string_bytes c.reason_with.result _ c.reason_with.ensures (reason_line c.args.broken c.args.it.now c.in_ok-name.ensures.line)
