-- How deep the parentheses and blocks of a token list nest.
use Rattle.std.specs.Prelude.{
  ◌≡◌,
  ◌≤◌,
  ℕ,
  ◌+◌,
  Bool,
  false,
  ◌&&◌,
  ◌||◌,
  if◌then◌else◌,
  List,
  [],
  ◌∷◌,
  take,
  codes,
  bytes_eq,
}
use Rattle.away_grammar.specs.declared.tokens.TokenKind.{TokenKind}
use Rattle.away_grammar.specs.declared.tokens.TokenKind.TheVariants.{Word, Symbol}
use Rattle.away_grammar.specs.Tokens.{Lexeme}
use Rattle.std.specs.Str.{str_eq_ignore_ascii_case}

-- the token is this word, in capitals or not
abbrev pub word_is : TokenKind → List ℕ → List ℕ → Bool
word_is Word text word = str_eq_ignore_ascii_case text word
word_is _ text word = false

-- the token is this symbol
abbrev pub symbol_is : TokenKind → List ℕ → List ℕ → Bool
symbol_is Symbol text symbol = bytes_eq text symbol
symbol_is _ text symbol = false

abbrev pub is_word : Lexeme → List ℕ → Bool
is_word t = word_is t.kind t.text

abbrev pub is_symbol : Lexeme → List ℕ → Bool
is_symbol t = symbol_is t.kind t.text

-- the words that END makes a closing pair with
abbrev pub is_closed : Lexeme → Bool
is_closed t = is_word t (codes "IF") || is_word t (codes "LOOP") || is_word t (codes "CASE")

abbrev pub is_end : Lexeme → Bool
is_end t = is_word t (codes "END")

abbrev pub is_opening : Lexeme → Bool
is_opening t = is_symbol t (codes "(") || is_word t (codes "BEGIN") || is_closed t

abbrev pub is_closing : Lexeme → Bool
is_closing t = is_symbol t (codes ")") || is_end t

-- what a token, or a closing pair, does to the count: it adds one, takes one, or neither
pub data Change : Type 0 where
  opens : Change
  closes : Change
  stays : Change

abbrev pub change : Lexeme → Change
change t = if is_opening t then opens else (if is_closing t then closes else stays)

-- one change for each token, where END and IF, LOOP or CASE directly behind it are one closing pair
abbrev pub changes : List Lexeme → List Change
changes [] = []
changes (t ∷ []) = change t ∷ []
changes (t ∷ u ∷ ts) = if is_end t && is_closed u then closes ∷ changes ts else change t ∷ changes (u ∷ ts)

-- how many of the changes open, and how many close
abbrev pub opened : List Change → ℕ
opened [] = 0
opened (opens ∷ cs) = opened cs + 1
opened (closes ∷ cs) = opened cs
opened (stays ∷ cs) = opened cs

abbrev pub closed : List Change → ℕ
closed [] = 0
closed (opens ∷ cs) = closed cs
closed (closes ∷ cs) = closed cs + 1
closed (stays ∷ cs) = closed cs

-- The count of a front is what opened in it less what closed. No front has a greater count than
-- this, and some front has it; the empty front has the count 0.
pub record IsGreatest (cs : List Change) (n : ℕ) : Type 0 where
  pub most : (at : ℕ) → opened (take at cs) ≤ n + closed (take at cs)
  pub reached : (at : ℕ) × (opened (take at cs) ≡ n + closed (take at cs))

-- the nesting of a token list
abbrev pub IsNesting : List Lexeme → ℕ → Type 0
IsNesting ts = IsGreatest (changes ts)
