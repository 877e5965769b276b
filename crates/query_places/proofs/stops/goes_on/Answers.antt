use Rattle.std.proofs.Common.{map, subst, sym}
use Rattle.away_grammar.specs.Tokens.{AreSpelled}
use Rattle.away_lex.proofs.Reading.{are_spelled}
use Rattle.away_lex.specs.Lexed.{seen}
use Rattle.query_places.proofs.stops.goes_on.Goals as goal

pub terminals_of-requires : goal.terminals_of-requires
terminals_of-requires c = subst (λ l. AreSpelled (map seen l)) (sym c.as_slice.ensures.value) (are_spelled c.in-Ok.ensures.ok)
