-- How a refusal of tokens is one of a reader.
use Rattle.away_lex.specs.declared.refusals.TokensRefusal.{TokensRefusal}
use Rattle.away_lex.specs.declared.refusals.TokensRefusal.TheVariants as tokens
use Rattle.away_lex.specs.declared.refusals.ReadRefusal.{ReadRefusal}
use Rattle.away_lex.specs.declared.refusals.ReadRefusal.TheVariants.{Token, NoMemory}

abbrev pub tokens_refused : TokensRefusal → ReadRefusal
tokens_refused (tokens.Bad offset) = Token offset
tokens_refused tokens.NoMemory = NoMemory
