-- Digits are a name, and so are they behind a few letters.
use Rattle.std.proofs.Common.{◌≡◌, ℕ, ◌+◌, ◌<◌, ◌≤◌, ◌^◌, ◌%◌, true, List, [], ◌∷◌, ◌++◌, length, length-append, codes, arith, refl}
use Rattle.std.specs.Fmt.{decimal}
use Rattle.std.specs.List.{list_all}
use Rattle.std.proofs.lemmas.Bool.Decides.{nat_tests}
use Rattle.std.proofs.lemmas.Fmt.{decimal_by_steps, length-decimal-le}
use Rattle.std.proofs.lemmas.List.Folds.{list_all-append}
use Rattle.away_values.specs.Words.{IsName, is_name_byte}

digit : (n : ℕ) → n < 10 → is_name_byte (48 + n) ≡ true
digit n lt = grind (arith, nat_tests)

one_digit : (n : ℕ) → n < 10 → list_all is_name_byte ((48 + n) ∷ []) ≡ true
one_digit n lt = rw (digit n lt) refl

one_more : (n : ℕ) (ds : List ℕ) → 10 ≤ n → list_all is_name_byte ds ≡ true → list_all is_name_byte (ds ++ ((48 + n % 10) ∷ [])) ≡ true
one_more n ds le before =
    let lt : n % 10 < 10 = omega arith in
    rw (list_all-append is_name_byte ds ((48 + n % 10) ∷ []), before, digit (n % 10) lt) refl

digits_are_plain : (n : ℕ) → n < 2 ^ 64 → list_all is_name_byte (decimal n) ≡ true
digits_are_plain = decimal_by_steps (λ n ds. list_all is_name_byte ds ≡ true) one_digit one_more

-- six letters and digits
prefixed : (start : List ℕ) (n : ℕ) → length start ≡ 6 → list_all is_name_byte start ≡ true → n < 2 ^ 64 → IsName (start ++ decimal n)
prefixed start n six plain lt =
    let short : length (decimal n) ≤ 20 = length-decimal-le 20 n (omega arith) (omega arith) lt in
    record {
      some = omega (arith, six, length-append start (decimal n));
      short = omega (arith, six, length-append start (decimal n));
      plain = rw (list_all-append is_name_byte start (decimal n), digits_are_plain n lt, plain) refl;
    }

pub column_is_name : (n : ℕ) → n < 2 ^ 64 → IsName (codes "away_c" ++ decimal n)
column_is_name n lt = prefixed (codes "away_c") n refl refl lt

pub carried_is_name : (n : ℕ) → n < 2 ^ 64 → IsName (codes "away_x" ++ decimal n)
carried_is_name n lt = prefixed (codes "away_x") n refl refl lt

pub alias_is_name : (n : ℕ) → n < 2 ^ 64 → IsName (codes "away_k" ++ decimal n)
alias_is_name n lt = prefixed (codes "away_k") n refl refl lt

pub digits_are_name : (n : ℕ) → n < 2 ^ 64 → IsName (decimal n)
digits_are_name n lt =
    record {
      some = decimal_by_steps (λ n ds. 0 < length ds) (λ n lt. omega arith) (λ n ds le before. omega (arith, length-append ds ((48 + n % 10) ∷ []))) n lt;
      short = let short : length (decimal n) ≤ 20 = length-decimal-le 20 n (omega arith) (omega arith) lt in omega (arith, short);
      plain = digits_are_plain n lt;
    }
