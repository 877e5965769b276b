-- How a token of each kind is spelled, by its bytes.
use Rattle.std.specs.Prelude.{
  ◌≡◌,
  ◌≤◌,
  ◌<◌,
  ◌⊎◌,
  ℕ,
  ◌+◌,
  ◌*◌,
  ◌-◌,
  Bool,
  true,
  not,
  ◌&&◌,
  ◌||◌,
  ◌==◌,
  if◌then◌else◌,
  List,
  [],
  ◌∷◌,
  ◌++◌,
  take,
  drop,
  length,
  slice_index,
  bytes_eq,
  codes,
}
use Rattle.std.specs.Char.{is_ascii_digit, is_ascii_alphabetic, is_ascii_alphanumeric}
use Rattle.std.specs.List.{list_all, list_any}
use Rattle.away_grammar.specs.declared.tokens.TokenKind.{TokenKind}
use Rattle.away_grammar.specs.declared.tokens.TokenKind.TheVariants.{
  Word,
  Integer,
  Str,
  Parameter,
  Dollar,
  Symbol,
}
use Rattle.away_grammar.specs.Marks.{spelled_symbols, texts_of}
use Rattle.away_values.specs.Words.{IsWord, longest_name}

-- ---- bytes

-- the byte at a place, 0 past the end
abbrev pub byte : List ℕ → ℕ → ℕ
byte z at = slice_index z at

-- space, tab, LF, CR, form feed
abbrev pub is_blank : ℕ → Bool
is_blank b = b == 32 || b == 9 || b == 10 || b == 13 || b == 12

-- what a name begins with: an ASCII letter or `_`
abbrev pub is_start : ℕ → Bool
is_start b = is_ascii_alphabetic b || b == 95

-- what a name goes on with: an ASCII letter, a digit or `_`
abbrev pub goes_on : ℕ → Bool
goes_on b = is_ascii_alphanumeric b || b == 95

-- ---- names and numbers

-- a name in any case
pub record IsNameText (z : List ℕ) : Type 0 where
  pub starts : is_start (byte z 0) ≡ true
  pub plain : list_all goes_on z ≡ true
  pub short : length z ≤ longest_name

-- the number that decimal digits spell, after a number that was read before them
abbrev pub number_from : ℕ → List ℕ → ℕ
number_from v [] = v
number_from v (d ∷ ds) = number_from (v * 10 + (d - 48)) ds

unfoldable pub number : List ℕ → ℕ
number = number_from 0

-- digits, of a value from 0 to the opposite of the least bigint
pub record IsInteger (z : List ℕ) : Type 0 where
  pub some : 0 < length z
  pub digits : list_all is_ascii_digit z ≡ true
  pub fits : number z ≤ 9223372036854775808

-- `$` and digits, of a value from 1 to 64
pub record IsParameter (z : List ℕ) : Type 0 where
  pub digits : List ℕ
  pub spelled : z ≡ 36 ∷ digits
  pub plain : list_all is_ascii_digit digits ≡ true
  pub from_one : 1 ≤ number digits
  pub to_limit : number digits ≤ 64

-- ---- strings

-- a text as it stands in a string: each quote twice
abbrev pub doubled : List ℕ → List ℕ
doubled [] = []
doubled (b ∷ t) = if b == 39 then 39 ∷ 39 ∷ doubled t else b ∷ doubled t

-- the string that spells a text
abbrev pub quoted : List ℕ → List ℕ
quoted t = 39 ∷ (doubled t ++ 39 ∷ [])

-- a string spells a text value
pub record IsString (z : List ℕ) : Type 0 where
  pub text : List ℕ
  pub value : IsWord text
  pub spelled : z ≡ quoted text

-- ---- dollar quotes

-- the mark of a tag: the tag between dollar terminals
abbrev pub mark_of : List ℕ → List ℕ
mark_of tag = 36 ∷ (tag ++ 36 ∷ [])

-- a tag is empty, or a name in its exact case
abbrev pub IsTag : List ℕ → Type 0
IsTag tag = (tag ≡ []) ⊎ IsNameText tag

-- the first place where the mark stands in a text is behind the inside
abbrev pub IsFirstBehind : List ℕ → List ℕ → Type 0
IsFirstBehind mark inside = (at : ℕ) → take (length mark) (drop at (inside ++ mark)) ≡ mark → length inside ≤ at

-- a mark, a text without it, and the mark again
pub record IsDollarQuote (z : List ℕ) : Type 0 where
  pub tag : List ℕ
  pub inside : List ℕ
  pub is_tag : IsTag tag
  pub next : IsFirstBehind (mark_of tag) inside
  pub spelled : z ≡ mark_of tag ++ (inside ++ mark_of tag)

-- ---- symbols

abbrev pub symbols : List (List ℕ)
symbols = texts_of spelled_symbols

abbrev pub is_symbol_text : List ℕ → Bool
is_symbol_text z = list_any (bytes_eq z) symbols

-- what a comment begins with
abbrev pub opens_comment : List ℕ → Bool
opens_comment z = bytes_eq z (codes "--") || bytes_eq z (codes "/*")

-- ---- the kinds

-- the text is spelled as a token of the kind
abbrev pub Spells : TokenKind → List ℕ → Type 0
Spells Word z = IsNameText z
Spells Integer z = IsInteger z
Spells Str z = IsString z
Spells Parameter z = IsParameter z
Spells Dollar z = IsDollarQuote z
Spells Symbol z = is_symbol_text z ≡ true

-- A token may stand directly before this byte, or before the end of the text (0): the byte doesn't
-- go on with a name or a number, double a quote, or make a longer symbol or a comment's opening.
abbrev pub may_precede : TokenKind → List ℕ → ℕ → Bool
may_precede Word z b = not (goes_on b)
may_precede Integer z b = not (goes_on b)
may_precede Parameter z b = not (goes_on b)
may_precede Str z b = not (b == 39)
may_precede Dollar z b = true
may_precede Symbol z b = not (is_symbol_text (z ++ b ∷ [])) && not (opens_comment (z ++ b ∷ []))
