use Rattle.away_values.proofs.Faults.{of_arithmetic, of_minus, of_small, of_cast, of_texts}
use Rattle.away_values.proofs.operator_laws.faults_are_classes.Goals as goal

pub returns : goal.returns
returns c = record { arithmetic = of_arithmetic; minus = of_minus; small_integer = of_small; casts = of_cast; texts = of_texts }
