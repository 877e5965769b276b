use Rattle.std.proofs.Common.{◌≡◌, ◌++◌, ◌*◌, ◌-◌}
use Rattle.away_gen.specs.Draws.{after}
use Rattle.away_gen.specs.Parts.{rows_from}
use Rattle.away_gen.proofs.parts.draw_rows.Given as goal

abbrev pub invariant-loop : goal.invariant-loop
invariant-loop l =
    record {
      rows : l.rows ++ rows_from (l.count - l.counter) l.draws.state ≡ rows_from l.fn.count l.fn.draws.state;
      state : after (3 * (l.count - l.counter)) l.draws.state ≡ after (3 * l.fn.count) l.fn.draws.state;
    }
