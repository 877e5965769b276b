-- The tokens that terminals are written as, with the spacing of printed text.
use Rattle.std.specs.Prelude.{◌≡◌, ℕ, Bool, true, not, ◌||◌, List, [], ◌∷◌, codes, map}
use Rattle.std.specs.Str.{str_eq_ignore_ascii_case}
use Rattle.away_grammar.specs.Printing.{spelled}
use Rattle.away_grammar.specs.Reserved.{calls}
use Rattle.away_grammar.specs.Spacing.{laid, lexemes_from}
use Rattle.away_grammar.specs.Terminals.{Terminal, name}
use Rattle.away_grammar.specs.Tokens.{Lexeme}

abbrev pub tokens_from : ℕ → List Terminal → List Lexeme
tokens_from at ts = lexemes_from at (laid calls (map spelled ts))

-- the name is a word that nests, which no text has as a name
abbrev pub nests : List ℕ → Bool
nests n = str_eq_ignore_ascii_case n (codes "BEGIN") || (str_eq_ignore_ascii_case n (codes "IF")
    || (str_eq_ignore_ascii_case n (codes "LOOP") || (str_eq_ignore_ascii_case n (codes "CASE")
    || str_eq_ignore_ascii_case n (codes "END"))))

abbrev pub is_plain : Terminal → Bool
is_plain (name n) = not (nests n)
is_plain _ = true

-- no name among the terminals is one
abbrev pub ArePlain : List Terminal → Type 0
ArePlain [] = Unit {0}
ArePlain (t ∷ ts) = (is_plain t ≡ true) × ArePlain ts
