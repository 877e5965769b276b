-- Worked lists of tokens with a word outside the profile, and without one.
use Rattle.std.specs.Prelude.{◌≡◌, ℕ, List, [], ◌∷◌, Some, None, codes}
use Rattle.away_grammar.specs.declared.tokens.TokenKind.TheVariants.{Word}
use Rattle.away_grammar.specs.Tokens.{Lexeme}
use Rattle.away_grammar.specs.OutsideWords.{outside_word}

abbrev pub word : List ℕ → Lexeme
word z = record { kind = Word; text = z; start = 0 }

-- EXCEPTION before WHEN, a word of the outer list, and EXCEPTION behind RAISE
abbrev pub OutsideWordsFound : Type 0
OutsideWordsFound =
    (outside_word [] (word (codes "BEGIN") ∷ word (codes "Exception") ∷ word (codes "WHEN") ∷ []) ≡ Some (word (codes "Exception")))
    × (outside_word (word (codes "returns") ∷ word (codes "SETOF") ∷ []) (word (codes "insert") ∷ []) ≡ Some (word (codes "SETOF")))
    × (outside_word (word (codes "when") ∷ []) (word (codes "RAISE") ∷ word (codes "EXCEPTION") ∷ []) ≡ None)
