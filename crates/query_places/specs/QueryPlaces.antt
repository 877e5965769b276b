-- Which files begin a query, and tokens of such a file by the bytes at which they begin.
use Rattle.std.specs.Prelude.{
  ◌≡◌,
  ◌⊎◌,
  ℕ,
  Bool,
  true,
  false,
  ◌||◌,
  List,
  [],
  ◌∷◌,
  ◌++◌,
  map,
  slice_get,
  Option,
  Some,
  None,
}
use Rattle.std.specs.Bool.{OnTrue}
use Rattle.away_grammar.specs.Terminals.{Terminal, token_terminals}
use Rattle.away_grammar.specs.Texts.{IsText}
use Rattle.away_grammar.specs.Tokens.{Lexeme, Lexes}
use Rattle.away_lex.specs.declared.slices.Token.{Token}
use Rattle.away_lex.specs.Lexed.{seen}
use Rattle.sql_text.specs.Refusals.{most_nesting}
use Rattle.sql_text.specs.TerminalKinds.{is_select, is_with}
use Rattle.function_places.specs.LimitPlaces.{IsTooDeep}
use Rattle.function_places.specs.TokenPlaces.{BeginsIn}
use Rattle.query_places.specs.declared.stops.Stop.{Stop}

-- ---- files

-- The bytes are a text with these tokens and no bad one.
pub record HasList (bytes : List ℕ) (list : List Lexeme) : Type 0 where
  pub text : IsText bytes
  pub lexes : Lexes 0 bytes list None

-- they are no text, or a token of it is bad
abbrev pub HasNoList : List ℕ → Type 0
HasNoList bytes =
    (¬ (IsText bytes)) ⊎ ((offset : ℕ) × ((before : List Lexeme) × Lexes 0 bytes before (Some offset)))

abbrev pub ListFound : List ℕ → Option (List Token) → Type 0
ListFound bytes (Some list) = HasList bytes (map seen list)
ListFound bytes None = HasNoList bytes

-- SELECT or WITH stands first
abbrev pub begins : List Terminal → Bool
begins ts = is_select ts || is_with ts

-- The bytes are a text without a bad token, and the first token is SELECT or WITH.
pub record BeginsQuery (bytes : List ℕ) : Type 0 where
  pub list : List Lexeme
  pub has : HasList bytes list
  pub so : begins (token_terminals list) ≡ true

abbrev pub Tells : List ℕ → Bool → Type 0
Tells bytes true = BeginsQuery bytes
Tells bytes false = ¬ (BeginsQuery bytes)

-- ---- tokens

-- a token of the file begins at the byte
pub record IsQueryToken (bytes : List ℕ) (offset : ℕ) : Type 0 where
  pub list : List Lexeme
  pub has : HasList bytes list
  pub stands : BeginsIn list offset

-- the first token of the list begins at the byte
pub record StandsFirst (list : List Lexeme) (offset : ℕ) : Type 0 where
  pub here : Lexeme
  pub after : List Lexeme
  pub whole : list ≡ here ∷ after
  pub offset_is : offset ≡ here.start

-- the first token of the file begins at the byte
pub record IsFirstToken (bytes : List ℕ) (offset : ℕ) : Type 0 where
  pub list : List Lexeme
  pub has : HasList bytes list
  pub stands : StandsFirst list offset

-- ---- where the reader of queries stopped

-- A token of the list begins there. Where the list ended and something was still to come, it is the
-- last one.
pub record StandsAt (list : List Lexeme) (stop : Stop) : Type 0 where
  pub before : List Lexeme
  pub here : Lexeme
  pub after : List Lexeme
  pub whole : list ≡ before ++ here ∷ after
  pub offset_is : stop.offset ≡ here.start
  pub last : OnTrue stop.ended (after ≡ [])

-- it stands in the file
pub record IsQueryStop (bytes : List ℕ) (stop : Stop) : Type 0 where
  pub list : List Lexeme
  pub has : HasList bytes list
  pub stands : StandsAt list stop

-- ---- nesting

-- The first token by which the list nests deeper than is read begins at the byte.
pub record StartsDeep (list : List Lexeme) (offset : ℕ) : Type 0 where
  pub number : ℕ
  pub here : Lexeme
  pub stands : slice_get list number ≡ Some here
  pub too_deep : IsTooDeep list most_nesting number
  pub offset_is : offset ≡ here.start

-- the same of the file
pub record IsQueryDeep (bytes : List ℕ) (offset : ℕ) : Type 0 where
  pub list : List Lexeme
  pub has : HasList bytes list
  pub starts : StartsDeep list offset
