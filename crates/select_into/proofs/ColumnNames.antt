-- Digits behind a few letters are a name.
use Rattle.std.proofs.Common.{◌≡◌, ℕ, ◌+◌, ◌<◌, ◌≤◌, ◌^◌, ◌%◌, true, List, [], ◌∷◌, ◌++◌, length, length-append, codes, arith, refl}
use Rattle.std.specs.Fmt.{decimal}
use Rattle.std.specs.List.{list_all}
use Rattle.std.proofs.lemmas.Bool.Decides.{nat_tests}
use Rattle.std.proofs.lemmas.Fmt.{decimal_by_steps, length-decimal-le}
use Rattle.std.proofs.lemmas.List.Folds.{list_all-append}
use Rattle.away_values.specs.Words.{IsName, is_name_byte}

digit : (n : ℕ) → n < 10 → is_name_byte (48 + n) ≡ true
digit n lt = grind (arith, nat_tests)

one_digit : (n : ℕ) → n < 10 → list_all is_name_byte ((48 + n) ∷ []) ≡ true
one_digit n lt = rw (digit n lt) refl

one_more : (n : ℕ) (ds : List ℕ) → 10 ≤ n → list_all is_name_byte ds ≡ true → list_all is_name_byte (ds ++ ((48 + n % 10) ∷ [])) ≡ true
one_more n ds le before =
    let lt : n % 10 < 10 = omega arith in
    rw (list_all-append is_name_byte ds ((48 + n % 10) ∷ []), before, digit (n % 10) lt) refl

digits_are_plain : (n : ℕ) → n < 2 ^ 64 → list_all is_name_byte (decimal n) ≡ true
digits_are_plain = decimal_by_steps (λ n ds. list_all is_name_byte ds ≡ true) one_digit one_more

pub column_is_name : (n : ℕ) → n < 2 ^ 64 → IsName (codes "away_v" ++ decimal n)
column_is_name n lt =
    let short : length (decimal n) ≤ 20 = length-decimal-le 20 n (omega arith) (omega arith) lt in
    record {
      some = omega (arith, length-append (codes "away_v") (decimal n));
      short = omega (arith, short, length-append (codes "away_v") (decimal n));
      plain = rw (list_all-append is_name_byte (codes "away_v") (decimal n), digits_are_plain n lt) refl;
    }
