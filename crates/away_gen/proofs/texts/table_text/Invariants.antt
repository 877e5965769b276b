use Rattle.std.proofs.Common.{◌≡◌, ◌++◌, drop, string_bytes}
use Rattle.std.specs.List.{flat_map}
use Rattle.away_gen.specs.Texts.{line, row_text, table_text}
use Rattle.away_gen.proofs.texts.table_text.Given as goal

abbrev pub invariant-loop-row : goal.invariant-loop-row
invariant-loop-row l = string_bytes l.text ++ flat_map (λ r. line (row_text r)) (drop l.row-index l.rows) ≡ table_text l.fn.rows
