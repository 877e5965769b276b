use Rattle.std.proofs.Common.{arith}
use Rattle.std.proofs.lemmas.Map.Text.{text_keys}
use Rattle.away_names.proofs.tables.with_table.Goals as goal

pub returns-in-Ok : goal.returns-in-Ok
returns-in-Ok c = λ n. grind (arith, text_keys)
