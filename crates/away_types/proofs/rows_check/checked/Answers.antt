use Rattle.std.proofs.Common.{rules}
use Rattle.away_types.proofs.rows_check.checked.Goals as goal

pub invariant_of-result : goal.invariant_of-result
invariant_of-result c = record { checked = ∣ record { schema = c.args.s.now.schema; written = c.args.q.now; checked_is = search rules } ∣₁ }
