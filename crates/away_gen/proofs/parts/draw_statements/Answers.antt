use Rattle.away_gen.specs.Parts.{statement_from}
use Rattle.away_gen.proofs.Turns.{one_more}
use Rattle.away_gen.proofs.parts.draw_statements.Goals as goal

pub loop-preserved : goal.loop-preserved
loop-preserved c =
    rw (c.in_ok-push.ensures.ok, c.draw_statement.ensures.statement, c.draw_statement.ensures.state)
    (one_more statement_from 4 c.args.count c.loop.counter c.loop.draws.state c.loop.statements _ c.loop-test.true c.loop.invariant)
