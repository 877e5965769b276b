use Rattle.std.proofs.Common.{◌≡◌, ◌++◌, replicate}
use Rattle.tail_rec.proofs.columns.push_columns.Given as goal

abbrev pub invariant-loop-column : goal.invariant-loop-column
invariant-loop-column l = l.columns ≡ l.fn.columns ++ replicate l._column l.t
