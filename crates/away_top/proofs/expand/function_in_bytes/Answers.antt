use Rattle.std.proofs.Common.{sym, subst}
use Rattle.away_trees.specs.Limits.{KeepsLimits}
use Rattle.away_top.specs.Refusals.{ReadsAsFunction}
use Rattle.away_top.proofs.expand.function_in_bytes.Goals as goal

-- Guesses of names: `Ok(Boxed::new(alloc, function)?)` as in kept_self_caller. Boxed first in a function of its own (as tail_calls' `boxed`), where these don't fit.
pub returns-in_ok-new-in-Ok-clause-judged : goal.returns-in_ok-new-in-Ok-clause-judged
returns-in_ok-new-in-Ok-clause-judged c =
    let ok = c.in-Ok.ensures.ok in
    let reads : ReadsAsFunction c.args.bytes.now c.in-Ok.function = record { may_be_read = ok.0; reads = ok.1; within_limits = ok.2 } in
    (record { written = c.in-Ok.function; reads_as = reads }, c.in_ok-new-in-Ok.ensures)

pub returns-in_ok-new-in-Ok-clause-limits : goal.returns-in_ok-new-in-Ok-clause-limits
returns-in_ok-new-in-Ok-clause-limits c = subst KeepsLimits (sym c.in_ok-new-in-Ok.ensures) c.in-Ok.ensures.ok.2
