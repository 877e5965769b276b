-- A word in lower case is a name.
use Rattle.std.proofs.Common.{◌≡◌, ℕ, ◌<◌, true, List, [], ◌∷◌, length, map, refl, arith}
use Rattle.std.proofs.lemmas.Bool.Decides.{nat_tests}
use Rattle.std.proofs.lemmas.List.{length-map}
use Rattle.std.specs.List.{list_all}
use Rattle.std.specs.Char.{to_ascii_lowercase}
use Rattle.away_values.specs.Words.{IsName, is_name_byte}
use Rattle.away_grammar.specs.Spellings.{goes_on, IsNameText}
use Rattle.away_grammar.specs.Reserved.{folded}
use Rattle.away_lex.proofs.Runs.{and_left, and_right}

low : (b : ℕ) → goes_on b ≡ true → is_name_byte (to_ascii_lowercase b) ≡ true
low b h = grind (arith, nat_tests)

all_low : (z : List ℕ) → list_all goes_on z ≡ true → list_all is_name_byte (map to_ascii_lowercase z) ≡ true
all_low [] h = refl
all_low (b ∷ z) h = rw (low b (and_left (goes_on b) (list_all goes_on z) h)) (all_low z (and_right (goes_on b) (list_all goes_on z) h))

some : (z : List ℕ) → IsNameText z → 0 < length z
some [] w = absurd (let h = w.starts in cc)
some (b ∷ z) w = omega arith

pub folded_is_name : (z : List ℕ) → IsNameText z → IsName (folded z)
folded_is_name z w = record {
  some = omega (arith, length-map z to_ascii_lowercase, some z w);
  short = omega (arith, length-map z to_ascii_lowercase, w.short);
  plain = all_low z w.plain;
}
