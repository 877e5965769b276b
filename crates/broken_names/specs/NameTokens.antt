-- Where what breaks a rule of names stands among the tokens of a function's file.
use Rattle.std.specs.Prelude.{◌≡◌, ◌≤◌, ℕ, List, ◌∷◌, ◌++◌, None}
use Rattle.away_grammar.specs.declared.grammar.Mark.TheVariants as m
use Rattle.away_grammar.specs.FunctionFile.{LexesFile}
use Rattle.away_grammar.specs.Terminals.{Terminal, mark, name, parameter, token_terminals}
use Rattle.away_grammar.specs.Tokens.{Lexeme}
use Rattle.away_names.specs.Lookups.{Name}
use Rattle.function_places.specs.TokenPlaces.{IsToken}
use Rattle.broken_names.specs.declared.culprit.Culprit.{Culprit}
use Rattle.broken_names.specs.declared.culprit.Culprit.TheVariants as culprit

-- ---- what stands first

abbrev pub BeginsWithName : List Terminal → Name → Type 0
BeginsWithName ts n = (rest : List Terminal) × (ts ≡ name n ∷ rest)

-- the alias, a point and the name
abbrev pub BeginsWithColumn : List Terminal → Name → Name → Type 0
BeginsWithColumn ts a n = (rest : List Terminal) × (ts ≡ name a ∷ mark m.Dot ∷ name n ∷ rest)

-- the name and what opens its arguments
abbrev pub BeginsWithCall : List Terminal → Name → Type 0
BeginsWithCall ts n = (rest : List Terminal) × (ts ≡ name n ∷ mark m.Open ∷ rest)

abbrev pub BeginsWithParameter : List Terminal → ℕ → Type 0
BeginsWithParameter ts number = (rest : List Terminal) × (ts ≡ parameter number ∷ rest)

-- the culprit stands first, as it is written
abbrev pub BeginsWith : Culprit → List Terminal → Type 0
BeginsWith (culprit.Name n) ts = BeginsWithName ts n
BeginsWith (culprit.Column a n) ts = BeginsWithColumn ts a n
BeginsWith (culprit.Function n) ts = BeginsWithCall ts n
BeginsWith (culprit.Parameter number) ts = BeginsWithParameter ts number
BeginsWith (culprit.Table n) ts = BeginsWithName ts n

-- ---- where it stands

-- A token of the list begins at the byte, which isn't before the first byte; from there on the
-- culprit is written.
pub record StartsCulprit (list : List Lexeme) (from : ℕ) (it : Culprit) (offset : ℕ) : Type 0 where
  pub before : List Lexeme
  pub here : Lexeme
  pub after : List Lexeme
  pub whole : list ≡ before ++ here ∷ after
  pub stands : BeginsWith it (token_terminals (here ∷ after))
  pub offset_is : offset ≡ here.start
  pub behind : from ≤ offset

-- the same of the body in the bytes of a function's file
pub record IsNameToken (bytes : List ℕ) (from : ℕ) (it : Culprit) (offset : ℕ) : Type 0 where
  pub outer : List Lexeme
  pub inner : List Lexeme
  pub lexes : LexesFile bytes outer inner None
  pub starts : StartsCulprit inner from it offset

-- ---- law

-- Such a place is that of a token of the file.
abbrev pub CulpritsAreTokens : Type 0
CulpritsAreTokens =
    (bytes : List ℕ) (from : ℕ) (it : Culprit) (offset : ℕ)
    → IsNameToken bytes from it offset → IsToken bytes offset
