-- Words that are never names, and words without regard to case.
use Rattle.std.specs.Prelude.{ℕ, Bool, not, ◌||◌, List, [], ◌∷◌, codes}
use Rattle.std.specs.List.{list_any}
use Rattle.std.specs.Str.{str_to_ascii_lowercase, str_eq_ignore_ascii_case}
use Rattle.away_grammar.specs.Marks.{reserved_words, texts_of}

-- a word in lower case: the name that it spells where it isn't reserved
abbrev pub folded : List ℕ → List ℕ
folded = str_to_ascii_lowercase

abbrev pub reserved : List (List ℕ)
reserved = texts_of reserved_words

-- a word that is never a name, in any case
unfoldable pub is_reserved : List ℕ → Bool
is_reserved word = list_any (str_eq_ignore_ascii_case word) reserved

-- A word that a printed `(` follows without a space: a name, or one of the reserved words that read
-- as a function's name.
unfoldable pub calls : List ℕ → Bool
calls word = not (is_reserved word) || list_any (str_eq_ignore_ascii_case word) (codes "cast" ∷ codes "coalesce"
    ∷ codes "greatest" ∷ codes "least" ∷ codes "exists" ∷ [])
