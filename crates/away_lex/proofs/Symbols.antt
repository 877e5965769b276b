-- The table of symbols, and what the code asks of the first two bytes.
use Rattle.std.proofs.Common.{◌≡◌, ℕ, false, List, [], ◌∷◌, arith}
use Rattle.std.proofs.lemmas.Bool.Decides.{nat_tests}
use Rattle.away_grammar.specs.Spellings.{is_symbol_text, opens_comment}
use Rattle.away_lex.specs.Pieces.{is_pair, is_single}

pub pair_is : (b c : ℕ) → is_symbol_text (b ∷ c ∷ []) ≡ is_pair b c
pair_is b c = grind (arith, nat_tests)

pub single_is : (b : ℕ) → is_symbol_text (b ∷ []) ≡ is_single b
single_is b = grind (arith, nat_tests)

pub three_is : (b c d : ℕ) (z : List ℕ) → is_symbol_text (b ∷ c ∷ d ∷ z) ≡ false
three_is b c d z = grind (arith, nat_tests)

pub three_opens : (b c d : ℕ) (z : List ℕ) → opens_comment (b ∷ c ∷ d ∷ z) ≡ false
three_opens b c d z = grind (arith, nat_tests)
