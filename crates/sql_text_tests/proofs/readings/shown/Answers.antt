use Rattle.std.proofs.Common.{map, subst, sym}
use Rattle.away_grammar.specs.Tokens.{AreSpelled}
use Rattle.away_lex.proofs.Reading.{are_spelled}
use Rattle.away_lex.specs.Lexed.{seen}
use Rattle.sql_text_tests.proofs.readings.shown.Goals as goal

pub read_expr-requires-clause-spelled : goal.read_expr-requires-clause-spelled
read_expr-requires-clause-spelled c = subst (λ l. AreSpelled (map seen l)) (sym c.as_slice.ensures.value) (are_spelled c.in-Ok.ensures.ok)
