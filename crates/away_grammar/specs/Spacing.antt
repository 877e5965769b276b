-- Tokens written one after the other, and the spacing of printed text.
use Rattle.std.specs.Prelude.{
  ◌≡◌,
  ℕ,
  ◌+◌,
  Bool,
  true,
  false,
  not,
  ◌&&◌,
  ◌||◌,
  if◌then◌else◌,
  ◌==◌,
  List,
  [],
  ◌∷◌,
  ◌++◌,
  length,
}
use Rattle.away_grammar.specs.declared.tokens.TokenKind.{TokenKind}
use Rattle.away_grammar.specs.declared.tokens.TokenKind.TheVariants.{Symbol}
use Rattle.away_grammar.specs.Spellings.{byte, Spells, may_precede}
use Rattle.away_grammar.specs.Tokens.{Lexeme, is_word_kind}

-- a token to be written, and whether a space stands before it
pub record Written : Type 0 where
  pub spaced : Bool
  pub kind : TokenKind
  pub text : List ℕ

-- what is written, with a line feed at the end
abbrev pub written : List Written → List ℕ
written [] = 10 ∷ []
written (w ∷ ws) = (if w.spaced then 32 ∷ w.text else w.text) ++ written ws

-- the tokens of it, from an offset on
abbrev pub lexemes_from : ℕ → List Written → List Lexeme
lexemes_from at [] = []
lexemes_from at (w ∷ ws) =
    let start = (if w.spaced then at + 1 else at) in
    record { kind = w.kind; text = w.text; start = start } ∷ lexemes_from (start + length w.text) ws

-- each is spelled as its kind, and may stand before what is written behind it
abbrev pub StandApart : List Written → Type 0
StandApart [] = Unit {0}
StandApart (w ∷ ws) = Spells w.kind w.text × (may_precede w.kind w.text (byte (written ws) 0) ≡ true) × StandApart ws

-- ---- the spacing of printed text

pub record Spelled : Type 0 where
  pub kind : TokenKind
  pub text : List ℕ

-- the token is the symbol of this one byte
abbrev pub is_one_of : ℕ → TokenKind → List ℕ → Bool
is_one_of b Symbol (c ∷ []) = c == b
is_one_of b _ _ = false

abbrev pub is_one : ℕ → Spelled → Bool
is_one b t = is_one_of b t.kind t.text

-- No space behind `(` and `.`, before `)`, `,` and `.`, and between a word that calls and `(`.
abbrev pub is_glued : (List ℕ → Bool) → Spelled → Spelled → Bool
is_glued calls a b = is_one 40 a ||
    (is_one 46 a || (is_one 41 b ||
    (is_one 44 b || (is_one 46 b || (is_word_kind a.kind && (calls a.text && is_one 40 b))))))

abbrev pub laid_behind : (List ℕ → Bool) → Spelled → List Spelled → List Written
laid_behind calls a [] = []
laid_behind calls a (b ∷ ts) = record { spaced = not (is_glued calls a b); kind = b.kind; text = b.text } ∷ laid_behind calls b ts

-- the tokens with the spacing of printed text
abbrev pub laid : (List ℕ → Bool) → List Spelled → List Written
laid calls [] = []
laid calls (t ∷ ts) = record { spaced = false; kind = t.kind; text = t.text } ∷ laid_behind calls t ts

-- no dot touches a dot
abbrev pub NoDots : Spelled → Spelled → Type 0
NoDots a b = ((is_one 46 a ≡ true) → byte b.text 0 ≡ 46 → ⊥) × ((is_one 46 b ≡ true) → byte a.text 0 ≡ 46 → ⊥)

-- each is spelled as its kind, and no dot touches a dot
abbrev pub AreLaid : List Spelled → Type 0
AreLaid [] = Unit {0}
AreLaid (a ∷ []) = Spells a.kind a.text
AreLaid (a ∷ b ∷ ts) = Spells a.kind a.text × NoDots a b × AreLaid (b ∷ ts)
