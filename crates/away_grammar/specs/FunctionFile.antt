-- The two token lists of a function's file: the outer list, of the whole file, and the body's list.
use Rattle.std.specs.Prelude.{
  ◌≡◌,
  ℕ,
  ◌+◌,
  Bool,
  true,
  false,
  if◌then◌else◌,
  List,
  [],
  ◌∷◌,
  ◌++◌,
  length,
  Option,
  Some,
  None,
}
use Rattle.away_grammar.specs.declared.tokens.TokenKind.{TokenKind}
use Rattle.away_grammar.specs.declared.tokens.TokenKind.TheVariants.{Dollar}
use Rattle.away_grammar.specs.Spellings.{IsTag, mark_of}
use Rattle.away_grammar.specs.Tokens.{Lexeme, Lexes}

abbrev pub is_dollar : TokenKind → Bool
is_dollar Dollar = true
is_dollar _ = false

-- the first dollar quote of a list
abbrev pub first_dollar : List Lexeme → Option Lexeme
first_dollar [] = None
first_dollar (t ∷ ts) = if is_dollar t.kind then Some t else first_dollar ts

-- what stands between the two marks of a dollar quote, and the mark
pub record IsInside (quote inside : List ℕ) (mark : List ℕ) : Type 0 where
  pub tag : List ℕ
  pub is_tag : IsTag tag
  pub is_mark : mark ≡ mark_of tag
  pub spelled : quote ≡ mark ++ (inside ++ mark)

-- the tokens before the first dollar quote, which counts as a bad token
abbrev pub up_to_dollar : List Lexeme → List Lexeme
up_to_dollar [] = []
up_to_dollar (t ∷ ts) = if is_dollar t.kind then [] else t ∷ up_to_dollar ts

abbrev pub bad_with_dollar : List Lexeme → Option ℕ → Option ℕ
bad_with_dollar [] bad = bad
bad_with_dollar (t ∷ ts) bad = if is_dollar t.kind then Some t.start else bad_with_dollar ts bad

-- The tokens of a part of a file, from its offset on, and the first bad offset, where a dollar
-- quote is a bad token.
pub record LexesPart (at : ℕ) (z : List ℕ) (ts : List Lexeme) (bad : Option ℕ) : Type 0 where
  pub all : List Lexeme
  pub all_bad : Option ℕ
  pub lexes : Lexes at z all all_bad
  pub tokens : ts ≡ up_to_dollar all
  pub first : bad ≡ bad_with_dollar all all_bad

-- those of the inside of a dollar quote, with the file's offsets
pub record LexesInside (quote : Lexeme) (ts : List Lexeme) (bad : Option ℕ) : Type 0 where
  pub mark : List ℕ
  pub inside : List ℕ
  pub is_inside : IsInside quote.text inside mark
  pub part : LexesPart (quote.start + length mark) inside ts bad

-- the body's list: that of the first dollar quote, and empty where there is none
abbrev pub LexesBody : Option Lexeme → List Lexeme → Option ℕ → Type 0
LexesBody None ts bad = (ts ≡ []) × (bad ≡ None)
LexesBody (Some quote) ts bad = LexesInside quote ts bad

-- the first of two bad offsets, where those of the first list come before those of the second
abbrev pub first_bad : Option ℕ → Option ℕ → Option ℕ
first_bad (Some at) other = Some at
first_bad None other = other

-- a function's file, its outer list, its body's list and its first bad offset
pub record LexesFile (z : List ℕ) (outer body : List Lexeme) (bad : Option ℕ) : Type 0 where
  pub outer_bad : Option ℕ
  pub body_bad : Option ℕ
  pub outer_list : Lexes 0 z outer outer_bad
  pub body_list : LexesBody (first_dollar outer) body body_bad
  pub first : bad ≡ first_bad outer_bad body_bad
