-- The terminal that a token is: a symbol or a reserved word, a name in lower case, or the value
-- that is spelled.
use Rattle.std.specs.Prelude.{
  ◌≡◌,
  ℕ,
  ◌-◌,
  Bool,
  true,
  false,
  ◌&&◌,
  ◌==◌,
  if◌then◌else◌,
  List,
  [],
  ◌∷◌,
  Option,
  Some,
  None,
  take,
  drop,
  length,
  map,
  chars,
  codes,
  bytes_eq,
}
use Rattle.std.specs.Str.{str_eq_ignore_ascii_case}
use Rattle.away_grammar.specs.declared.tokens.TokenKind.{TokenKind}
use Rattle.away_grammar.specs.declared.tokens.TokenKind.TheVariants.{
  Word,
  Integer,
  Str,
  Parameter,
  Dollar,
  Symbol,
}
use Rattle.away_grammar.specs.declared.grammar.Mark.{Mark}
use Rattle.away_grammar.specs.Marks.{Entry, reserved_words, spelled_symbols}
use Rattle.away_grammar.specs.Spellings.{number}
use Rattle.away_grammar.specs.Tokens.{Lexeme}
use Rattle.away_grammar.specs.Reserved.{folded}

pub data Terminal : Type 0 where
  mark : Mark → Terminal
  -- a name, in lower case
  name : List ℕ → Terminal
  integer : ℕ → Terminal
  -- a text, by its code points
  string : List ℕ → Terminal
  parameter : ℕ → Terminal
  -- a dollar quote, as it is written
  quote : List ℕ → Terminal

-- the mark of the first entry whose text is the same
abbrev pub first_mark : (List ℕ → Bool) → List Entry → Option Mark
first_mark same [] = None
first_mark same (e ∷ es) = if same e.0 then Some e.1 else first_mark same es

-- a reserved word, in any case
unfoldable pub word_mark : List ℕ → Option Mark
word_mark text = first_mark (str_eq_ignore_ascii_case text) reserved_words

unfoldable pub symbol_mark : List ℕ → Option Mark
symbol_mark text = first_mark (bytes_eq text) spelled_symbols

-- the text that the inside of a string spells: each quote in it stands twice
abbrev pub undoubled : List ℕ → List ℕ
undoubled [] = []
undoubled (b ∷ []) = b ∷ []
undoubled (b ∷ c ∷ z) = b ∷ (if b == 39 && c == 39 then undoubled z else undoubled (c ∷ z))

-- what stands between the quotes of a string
abbrev pub between_quotes : List ℕ → List ℕ
between_quotes z = take (length z - 2) (drop 1 z)

abbrev pub mark_or : Option Mark → Terminal → Terminal
mark_or (Some m) other = mark m
mark_or None other = other

-- Of the texts that are spelled as a symbol each has its mark.
abbrev pub terminal_by_kind : TokenKind → List ℕ → Terminal
terminal_by_kind Word z = mark_or (word_mark z) (name (folded z))
terminal_by_kind Integer z = integer (number z)
terminal_by_kind Str z = string (chars (undoubled (between_quotes z)))
terminal_by_kind Parameter z = parameter (number (drop 1 z))
terminal_by_kind Dollar z = quote z
terminal_by_kind Symbol z = mark_or (symbol_mark z) (quote z)

abbrev pub token_terminal : Lexeme → Terminal
token_terminal t = terminal_by_kind t.kind t.text

abbrev pub token_terminals : List Lexeme → List Terminal
token_terminals = map token_terminal
