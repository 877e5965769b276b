-- That the text of a bigint is a spelling of it.
use Rattle.std.proofs.Common.{◌≡◌, refl, ◌∙◌, ap, ℕ, suc, ◌<◌, ◌^◌, arith, true, List, [], ◌∷◌, ℤ, pos, negsuc, neg_ℤ}
use Rattle.std.specs.Prelude.{Some, None, if◌then◌else◌, nat_eq}
use Rattle.std.proofs.lemmas.Bool.{ltb-true, ne_eqb}
use Rattle.std.proofs.lemmas.Fmt.{decimal_is_IsNumeral}
use Rattle.std.proofs.lemmas.Str.Parse.{tells_all_ascii_digits, digit_from_value}
use Rattle.std.specs.Fmt.{decimal, signed_decimal}
use Rattle.std.specs.Int.{IsInRange}
use Rattle.std.specs.Str.{all_ascii_digits}
use Rattle.std.specs.Str.Parse.{AllDigits, IsNumeral, digits_value}
use Rattle.away_values.specs.Operators.{fits}
use Rattle.away_values.specs.BigintSpellings.{number_of, signed, bigint_of}

digits_test : (ds : List ℕ) → AllDigits 10 ds → all_ascii_digits ds ≡ true
digits_test [] h = refl
digits_test (c ∷ cs) h = tells_all_ascii_digits.more c cs (digit_from_value c h.0) (digits_test cs h.1)

number_of-numeral : (ds : List ℕ) (n : ℕ) → IsNumeral 10 ds → digits_value 10 ds ≡ n → number_of ds ≡ Some n
number_of-numeral [] n h e = absurd (omega (arith, h.0))
number_of-numeral (c ∷ cs) n h e = ap (λ b. if b then Some (digits_value 10 (c ∷ cs)) else None) (digits_test (c ∷ cs) h.1) ∙ ap Some e

number_of-decimal : (n : ℕ) → n < 2 ^ 64 → number_of (decimal n) ≡ Some n
number_of-decimal n h = let d = decimal_is_IsNumeral n h in number_of-numeral (decimal n) n d.0 d.1

-- digits begin with no sign
unsigned : (ds : List ℕ) → IsNumeral 10 ds → bigint_of ds ≡ signed pos (number_of ds)
unsigned [] h = absurd (omega (arith, h.0))
unsigned (c ∷ cs) h =
    let range : IsInRange 48 57 c = digit_from_value c h.1.0 in
    ap (λ b. if b then signed (λ n. neg_ℤ (pos n)) (number_of cs) else (if nat_eq c 43 then signed pos (number_of cs) else signed pos (number_of (c ∷ cs)))) (ne_eqb c 45 (λ e. omega (arith, range.0)))
    ∙ ap (λ b. if b then signed pos (number_of cs) else signed pos (number_of (c ∷ cs))) (ne_eqb c 43 (λ e. omega (arith, range.0)))

pub reads_back : (n : ℤ) → fits n ≡ true → bigint_of (signed_decimal n) ≡ Some n
reads_back (pos n) h =
    let small : n < 2 ^ 63 = ltb-true n (2 ^ 63) h in
    unsigned (decimal n) (decimal_is_IsNumeral n (omega arith)).0
    ∙ ap (signed pos) (number_of-decimal n (omega arith))
    ∙ ap (λ b. if b then Some (pos n) else None) h
reads_back (negsuc n) h =
    let small : n < 2 ^ 63 = ltb-true n (2 ^ 63) h in
    ap (signed (λ m. neg_ℤ (pos m))) (number_of-decimal (suc n) (omega arith))
    ∙ ap (λ b. if b then Some (negsuc n) else None) h
