-- Words of PL/pgSQL and SQL that stand outside this profile. A function's file that isn't read is
-- refused by the first of them, where it has one.
use Rattle.std.specs.Prelude.{
  ℕ,
  Bool,
  true,
  false,
  ◌&&◌,
  ◌||◌,
  if◌then◌else◌,
  List,
  [],
  ◌∷◌,
  Option,
  Some,
  None,
  codes,
}
use Rattle.std.specs.List.{list_any}
use Rattle.std.specs.Str.{str_eq_ignore_ascii_case}
use Rattle.away_grammar.specs.Tokens.{Lexeme, is_word_kind}

abbrev pub outside_words : List (List ℕ)
outside_words =
    codes "alias" ∷ codes "array" ∷ codes "assert" ∷ codes "call" ∷ codes "close" ∷ codes "collate" ∷ codes "commit"
    ∷ codes "cross" ∷ codes "cursor" ∷ codes "debug"
    ∷ codes "delete" ∷ codes "diagnostics" ∷ codes "distinct" ∷ codes "execute" ∷ codes "fetch"
    ∷ codes "foreach" ∷ codes "full" ∷ codes "get" ∷ codes "group"
    ∷ codes "having" ∷ codes "ilike" ∷ codes "info" ∷ codes "inout" ∷ codes "insert" ∷ codes "intersect"
    ∷ codes "join" ∷ codes "left" ∷ codes "like" ∷ codes "log" ∷ codes "merge" ∷ codes "move"
    ∷ codes "next" ∷ codes "notice" ∷ codes "numeric" ∷ codes "open"
    ∷ codes "out" ∷ codes "over" ∷ codes "perform" ∷ codes "query" ∷ codes "record" ∷ codes "right" ∷ codes "rollback"
    ∷ codes "security" ∷ codes "set" ∷ codes "setof"
    ∷ codes "similar" ∷ codes "slice" ∷ codes "trigger" ∷ codes "update" ∷ codes "using" ∷ codes "variadic"
    ∷ codes "warning" ∷ codes "window" ∷ codes "with" ∷ []

-- one of these words, in any case
unfoldable pub is_outside : List ℕ → Bool
is_outside word = list_any (str_eq_ignore_ascii_case word) outside_words

-- the token is this word, in any case
abbrev pub spells_word : List ℕ → Lexeme → Bool
spells_word word t = is_word_kind t.kind && str_eq_ignore_ascii_case t.text word

abbrev pub begins_with_word : List ℕ → List Lexeme → Bool
begins_with_word word [] = false
begins_with_word word (t ∷ ts) = spells_word word t

-- The token is outside the profile: one of the words, or EXCEPTION directly before WHEN.
abbrev pub stands_outside : Lexeme → List Lexeme → Bool
stands_outside t ts = (is_word_kind t.kind && is_outside t.text) || (spells_word (codes "exception") t && begins_with_word (codes "when") ts)

abbrev pub first_outside : List Lexeme → Option Lexeme
first_outside [] = None
first_outside (t ∷ ts) = if stands_outside t ts then Some t else first_outside ts

abbrev pub or_else : Option Lexeme → Option Lexeme → Option Lexeme
or_else (Some t) other = Some t
or_else None other = other

-- the first one of a file's outer list, and then of its body's list
abbrev pub outside_word : List Lexeme → List Lexeme → Option Lexeme
outside_word outer inner = or_else (first_outside outer) (first_outside inner)
