use Rattle.std.proofs.Common.{◌≡◌, drop, map}
use Rattle.std.specs.Str.{str_eq_ignore_ascii_case}
use Rattle.away_grammar.specs.Terminals.{first_mark}
use Rattle.sql_text.specs.CodeTerminals.{entry}
use Rattle.sql_text.proofs.terminals.mark_in_any_case.Given as goal

abbrev pub invariant-loop-text : goal.invariant-loop-text
invariant-loop-text l = first_mark (str_eq_ignore_ascii_case l.word) (map entry (drop l.text-index l.entries)) ≡ first_mark (str_eq_ignore_ascii_case l.word) (map entry l.entries)
