use Rattle.std.proofs.Common.{map, subst, sym}
use Rattle.std.specs.List.{All}
use Rattle.away_grammar.specs.Tokens.{AreSpelled}
use Rattle.away_lex.proofs.Reading.{are_spelled}
use Rattle.away_lex.specs.Lexed.{seen}
use Rattle.sql_text.specs.CodeTerminals.{HasSpelling}
use Rattle.sql_text_tests.proofs.terminals.shown.Goals as goal

pub terminals_of-requires : goal.terminals_of-requires
terminals_of-requires c = subst (λ l. AreSpelled (map seen l)) (sym c.as_slice.ensures.value) (are_spelled c.in-Ok.ensures.ok)

pub new-left-requires-clause-spelled : goal.new-left-requires-clause-spelled
new-left-requires-clause-spelled c = subst (All HasSpelling) (sym c.as_slice-2.ensures) c.in-Ok-terminals_of.ensures.spelled
