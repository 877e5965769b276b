-- Tokens of a function's file by the bytes at which they begin.
use Rattle.std.specs.Prelude.{◌≡◌, ◌⊎◌, ℕ, Bool, List, ◌∷◌, ◌++◌, length, map, Option, None, Some, codes}
use Rattle.away_grammar.specs.declared.grammar.Mark.TheVariants as m
use Rattle.away_grammar.specs.FunctionFile.{LexesFile}
use Rattle.away_grammar.specs.FunctionGrammar.{or_replace}
use Rattle.away_grammar.specs.Grammar.{schema_qualified}
use Rattle.away_grammar.specs.OutsideWords.{outside_word}
use Rattle.away_grammar.specs.Terminals.{Terminal, mark, name, token_terminals}
use Rattle.away_grammar.specs.Texts.{IsText}
use Rattle.away_grammar.specs.Tokens.{Lexeme}
use Rattle.away_lex.specs.declared.function_file.FunctionTokens.{FunctionTokens}
use Rattle.away_lex.specs.Lexed.{seen}

-- ---- tokens

-- a token of the list begins at the byte
pub record BeginsIn (list : List Lexeme) (offset : ℕ) : Type 0 where
  pub before : List Lexeme
  pub here : Lexeme
  pub after : List Lexeme
  pub whole : list ≡ before ++ here ∷ after
  pub offset_is : offset ≡ here.start

-- a token of the file begins at the byte, or one of its body
pub record IsToken (bytes : List ℕ) (offset : ℕ) : Type 0 where
  pub outer : List Lexeme
  pub inner : List Lexeme
  pub lexes : LexesFile bytes outer inner None
  pub begins : BeginsIn outer offset ⊎ BeginsIn inner offset

-- ---- the lists of a file

-- The bytes are no text, or a token of it is bad.
abbrev pub HasNoTokens : List ℕ → Type 0
HasNoTokens bytes =
    (¬ (IsText bytes)) ⊎ ((offset : ℕ) × ((outer : List Lexeme) × ((inner : List Lexeme)
    × LexesFile bytes outer inner (Some offset))))

abbrev pub TokensFound : List ℕ → Option FunctionTokens → Type 0
TokensFound bytes (Some lists) = LexesFile bytes (map seen lists.outer.items) (map seen lists.body.items) None
TokensFound bytes None = HasNoTokens bytes

-- ---- words outside the language

-- the first word outside the language begins at the byte, or there is none
abbrev pub StartsWord : List Lexeme → List Lexeme → Option ℕ → Type 0
StartsWord outer inner (Some offset) = (word : Lexeme) × (outside_word outer inner ≡ Some word) × (offset ≡ word.start)
StartsWord outer inner None = outside_word outer inner ≡ None

pub record WordStands (bytes : List ℕ) (found : Option ℕ) : Type 0 where
  pub outer : List Lexeme
  pub inner : List Lexeme
  pub lexes : LexesFile bytes outer inner None
  pub starts : StartsWord outer inner found

-- the first word of the file outside the language begins at the byte
abbrev pub IsWordPlace : List ℕ → ℕ → Type 0
IsWordPlace bytes offset = WordStands bytes (Some offset)

-- or there is none, or no tokens
abbrev pub WordPlaced : List ℕ → Option ℕ → Type 0
WordPlaced bytes (Some offset) = IsWordPlace bytes offset
WordPlaced bytes None = WordStands bytes None ⊎ HasNoTokens bytes

-- ---- the name of the function

-- CREATE, perhaps OR REPLACE, and FUNCTION stand before what is left
pub record HeadStands (ts left : List Terminal) : Type 0 where
  pub replaces : Bool
  pub head : ts ≡ mark m.Create ∷ or_replace replaces (name (codes "function") ∷ left)

-- perhaps `public.` stands before so many terminals
pub record SchemaStands (ts : List Terminal) (left : ℕ) : Type 0 where
  pub qualifies : Bool
  pub behind : List Terminal
  pub head : ts ≡ schema_qualified qualifies behind
  pub left_is : left ≡ length behind

-- a name and a parenthesis
pub record BeginsWithName (ts : List Terminal) : Type 0 where
  pub spelled : List ℕ
  pub rest : List Terminal
  pub begins : ts ≡ name spelled ∷ mark m.Open ∷ rest

-- Behind CREATE, perhaps OR REPLACE, FUNCTION and perhaps `public.` what is left begins with a name
-- and a parenthesis.
pub record NameStands (ts left : List Terminal) : Type 0 where
  pub replaces : Bool
  pub qualifies : Bool
  pub head : ts ≡ mark m.Create ∷ or_replace replaces (name (codes "function") ∷ schema_qualified qualifies left)
  pub begins : BeginsWithName left

-- and so many are left there
pub record NameStandsAt (ts : List Terminal) (left : ℕ) : Type 0 where
  pub behind : List Terminal
  pub stands : NameStands ts behind
  pub left_is : left ≡ length behind

-- the token of the list that is the name of the function begins at the byte
pub record StartsName (outer : List Lexeme) (offset : ℕ) : Type 0 where
  pub before : List Lexeme
  pub here : Lexeme
  pub after : List Lexeme
  pub whole : outer ≡ before ++ here ∷ after
  pub stands : NameStands (token_terminals outer) (token_terminals (here ∷ after))
  pub offset_is : offset ≡ here.start

-- the name of the function begins at the byte
pub record IsNamePlace (bytes : List ℕ) (offset : ℕ) : Type 0 where
  pub outer : List Lexeme
  pub inner : List Lexeme
  pub lexes : LexesFile bytes outer inner None
  pub starts : StartsName outer offset
