use Rattle.std.proofs.Common.{rules}
use Rattle.away_types.proofs.schema_check.check_schema.Goals as goal

pub invariant_of-result : goal.invariant_of-result
invariant_of-result c = record { checked = ∣ record { unbroken = search rules } ∣₁ }
