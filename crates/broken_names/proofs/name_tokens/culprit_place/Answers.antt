use Rattle.std.proofs.Common.{map, subst, sym}
use Rattle.away_grammar.specs.Tokens.{AreSpelled}
use Rattle.away_lex.specs.Lexed.{seen}
use Rattle.plsql_parse.proofs.WholeFile.{inner_spelled}
use Rattle.broken_names.proofs.name_tokens.culprit_place.Goals as goal

pub place_in-requires : goal.place_in-requires
place_in-requires c =
    subst (λ l. AreSpelled (map seen l)) (sym c.as_slice.ensures.value) (inner_spelled c.in-Ok.ensures.ok.1.lists_are)
