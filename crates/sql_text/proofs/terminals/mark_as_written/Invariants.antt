use Rattle.std.proofs.Common.{◌≡◌, drop, map, bytes_eq}
use Rattle.away_grammar.specs.Terminals.{first_mark}
use Rattle.sql_text.specs.CodeTerminals.{entry}
use Rattle.sql_text.proofs.terminals.mark_as_written.Given as goal

abbrev pub invariant-loop-text : goal.invariant-loop-text
invariant-loop-text l = first_mark (bytes_eq l.symbol) (map entry (drop l.text-index l.entries)) ≡ first_mark (bytes_eq l.symbol) (map entry l.entries)
