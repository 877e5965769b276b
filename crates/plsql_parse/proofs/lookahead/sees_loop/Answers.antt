use Rattle.std.proofs.Common.{sym, ◌∙◌}
use Rattle.plsql_parse.proofs.BodySteps.{opens_at, opens_on, opens_none}
use Rattle.plsql_parse.proofs.lookahead.sees_loop.Goals as goal

pub returns-then-is_loop : goal.returns-then-is_loop
returns-then-is_loop c = sym (opens_at _ _ _ c.in-Some.ensures.next (sym c.if-is_loop.ensures)) ∙ c.loop-terminal.invariant

pub loop-terminal-preserved : goal.loop-terminal-preserved
loop-terminal-preserved c = rw c.is_end-behind_end.ensures (opens_on _ _ _ _ c.in-Some.ensures.next c.in-Some.ensures.rest (sym c.if-is_loop.ensures) ∙ c.loop-terminal.invariant)

pub returns : goal.returns
returns c = sym (opens_none _ _ c.in_default.ensures.next) ∙ c.loop-terminal.invariant
