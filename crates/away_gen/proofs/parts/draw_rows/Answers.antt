use Rattle.std.proofs.Common.{sym, ◌∙◌}
use Rattle.away_gen.specs.Parts.{row_from}
use Rattle.away_gen.proofs.Turns.{one_more, three_less}
use Rattle.away_gen.proofs.parts.draw_rows.Goals as goal

pub loop-preserved : goal.loop-preserved
loop-preserved c =
    record {
      rows = rw (c.in_ok-push.ensures.ok, c.draw_row.ensures.row, c.draw_row.ensures.state)
          (one_more row_from 3 c.args.count c.loop.counter c.loop.draws.state c.loop.rows _ c.loop-test.true c.loop.invariant.rows);
      state = rw c.draw_row.ensures.state
          (sym (three_less c.args.count c.loop.counter c.loop.draws.state c.loop-test.true) ∙ c.loop.invariant.state);
    }
