-- The tokens of a text: the text is cut into pieces, in order, with nothing left over. A piece is a
-- token, or white space or a comment, which gives no token.
use Rattle.std.specs.Prelude.{
  ◌≡◌,
  ◌≤◌,
  ◌<◌,
  ℕ,
  ◌+◌,
  Bool,
  true,
  false,
  not,
  ◌&&◌,
  ◌||◌,
  ◌==◌,
  List,
  [],
  ◌∷◌,
  ◌++◌,
  take,
  drop,
  length,
  Option,
  Some,
  None,
}
use Rattle.std.specs.List.{list_all}
use Rattle.away_grammar.specs.declared.tokens.TokenKind.{TokenKind}
use Rattle.away_grammar.specs.declared.tokens.TokenKind.TheVariants.{Word}
use Rattle.away_grammar.specs.Spellings.{byte, is_blank, Spells, may_precede}

-- ---- pieces that give no token

-- a comment of one line goes on with any byte but LF and CR
abbrev pub is_line : ℕ → Bool
is_line b = not (b == 10 || b == 13)

-- the text is at its end, or at the end of a line
abbrev pub EndsLine : List ℕ → Type 0
EndsLine [] = Unit {0}
EndsLine (b ∷ z) = is_line b ≡ false

-- these two bytes open a comment, or close one
abbrev pub is_comment_opening : ℕ → ℕ → Bool
is_comment_opening b c = b == 47 && c == 42

abbrev pub is_comment_closing : ℕ → ℕ → Bool
is_comment_closing b c = b == 42 && c == 47

-- What stands behind `/*`, with the `*/` that closes it: other bytes, and whole comments, each from
-- its `/*` to its own `*/`.
pub data ClosesComment : List ℕ → Type 0 where
  closes : ClosesComment (42 ∷ 47 ∷ [])
  other : {b c : ℕ} {z : List ℕ} → is_comment_closing b c ≡ false → is_comment_opening b c ≡ false → ClosesComment (c ∷ z) → ClosesComment (b ∷ c ∷ z)
  nests : {inner z : List ℕ} → ClosesComment inner → ClosesComment z → ClosesComment (47 ∷ 42 ∷ (inner ++ z))

-- white space, or a comment, before what is left of the text
pub data Skips : List ℕ → List ℕ → Type 0 where
  blank : {b : ℕ} {rest : List ℕ} → is_blank b ≡ true → Skips (b ∷ []) rest
  line : {z rest : List ℕ} → list_all is_line z ≡ true → EndsLine rest → Skips (45 ∷ 45 ∷ z) rest
  block : {z rest : List ℕ} → ClosesComment z → Skips (47 ∷ 42 ∷ z) rest

-- ---- pieces that are tokens

-- A token before what is left of the text. It is the longest that fits: what follows doesn't go on
-- with it.
pub record Stands (kind : TokenKind) (z rest : List ℕ) : Type 0 where
  pub spelled : Spells kind z
  pub apart : may_precede kind z (byte rest 0) ≡ true

-- No piece stands at the front of the text, so a bad token begins there: an unclosed string,
-- comment or dollar quote, what is over its limit, or a byte that begins no token.
abbrev pub NoPiece : List ℕ → Type 0
NoPiece z = (piece rest : List ℕ) → z ≡ piece ++ rest → (Skips piece rest → ⊥) × ((kind : TokenKind) → Stands kind piece rest → ⊥)

-- ---- the tokens of a text

-- a token, by its bytes and its offset
pub record Lexeme : Type 0 where
  pub kind : TokenKind
  pub text : List ℕ
  pub start : ℕ

abbrev pub is_word_kind : TokenKind → Bool
is_word_kind Word = true
is_word_kind _ = false

-- A text with the offset of its first byte, its tokens, and the offset of the first bad one if
-- there is one.
pub data Lexes : ℕ → List ℕ → List Lexeme → Option ℕ → Type 0 where
  ends : {at : ℕ} → Lexes at [] [] None
  skips : {at : ℕ} {z piece rest : List ℕ} {ts : List Lexeme} {bad : Option ℕ}
      → z ≡ piece ++ rest → Skips piece rest → Lexes (at + length piece) rest ts bad → Lexes at z ts bad
  token : {at : ℕ} {z piece rest : List ℕ} {kind : TokenKind} {ts : List Lexeme} {bad : Option ℕ}
      → z ≡ piece ++ rest → Stands kind piece rest → Lexes (at + length piece) rest ts bad
      → Lexes at z (record { kind = kind; text = piece; start = at } ∷ ts) bad
  stops : {at : ℕ} {z : List ℕ} → 0 < length z → NoPiece z → Lexes at z [] (Some at)

-- ---- the same by the list of pieces

-- a piece that gives no token, or a token of a kind
pub data Piece : Type 0 where
  skipped : List ℕ → Piece
  lexed : TokenKind → List ℕ → Piece

abbrev pub text_of : Piece → List ℕ
text_of (skipped z) = z
text_of (lexed kind z) = z

-- the pieces one behind the other
abbrev pub text_of_pieces : List Piece → List ℕ
text_of_pieces [] = []
text_of_pieces (p ∷ ps) = text_of p ++ text_of_pieces ps

-- the tokens among them, with the offsets where they stand
abbrev pub tokens_of : ℕ → List Piece → List Lexeme
tokens_of at [] = []
tokens_of at (skipped z ∷ ps) = tokens_of (at + length z) ps
tokens_of at (lexed kind z ∷ ps) = record { kind = kind; text = z; start = at } ∷ tokens_of (at + length z) ps

abbrev pub IsPiece : Piece → List ℕ → Type 0
IsPiece (skipped z) rest = Skips z rest
IsPiece (lexed kind z) rest = Stands kind z rest

-- each is a piece before all that follows it
abbrev pub ArePieces : List Piece → List ℕ → Type 0
ArePieces [] rest = Unit {0}
ArePieces (p ∷ ps) rest = IsPiece p (text_of_pieces ps ++ rest) × ArePieces ps rest

-- what is left behind the pieces: nothing, or what begins with a bad token
abbrev pub IsLeft : List ℕ → Option ℕ → ℕ → Type 0
IsLeft rest None at = rest ≡ []
IsLeft rest (Some bad) at = (bad ≡ at) × (0 < length rest) × NoPiece rest

-- The text is pieces one behind the other, and what is left; the tokens are those among the pieces.
pub record IsCut (at : ℕ) (z : List ℕ) (ts : List Lexeme) (bad : Option ℕ) : Type 0 where
  pub pieces : List Piece
  pub rest : List ℕ
  pub whole : z ≡ text_of_pieces pieces ++ rest
  pub each : ArePieces pieces rest
  pub tokens : ts ≡ tokens_of at pieces
  pub left : IsLeft rest bad (at + length (text_of_pieces pieces))

-- Each token is a slice of the text at its start, has a byte, and begins at or behind the end of
-- the one before it.
abbrev pub StandInOrder : ℕ → List ℕ → List Lexeme → Type 0
StandInOrder at z [] = Unit {0}
StandInOrder at z (t ∷ ts) = (gap : ℕ) × ((n : ℕ) × (t.start ≡ at + gap) × (t.text ≡ take n (drop gap z))
    × (1 ≤ n) × StandInOrder (at + (gap + n)) (drop (gap + n) z) ts)

-- each token is spelled as its kind
abbrev pub AreSpelled : List Lexeme → Type 0
AreSpelled [] = Unit {0}
AreSpelled (t ∷ ts) = Spells t.kind t.text × AreSpelled ts
