-- That the number which std reads from a text is the bigint that the text writes, and that such a text is ASCII.
use Rattle.std.proofs.Common.{◌≡◌, refl, sym, ◌∙◌, ap, ℕ, zero, suc, ◌<◌, ◌≤◌, ◌^◌, arith, Bool, true, false, List, [], ◌∷◌, length, ℤ, pos, neg_ℤ, inl, inr, w64}
use Rattle.std.specs.Prelude.{Option, Some, None, Result, Ok, Err, if◌then◌else◌, nat_eq}
use Rattle.std.specs.Result.{OkIff, result_ok}
use Rattle.std.specs.Str.{IsAscii, IsUtf8, all_ascii_digits}
use Rattle.std.specs.Str.Parse.{ParsesSigned, digits_value}
use Rattle.std.proofs.lemmas.Bool.{cases_Bool, ltb-true, lt-ltb, eqb-true, eqb-false}
use Rattle.std.proofs.lemmas.Str.{IsUtf8-from_ascii}
use Rattle.std.proofs.lemmas.Str.Parse.{IsNumeralModel, numerals_by_value, tells_all_ascii_digits, parse_signed_minus, parse_signed_plain, parse_signed_plus}
use Rattle.away_values.specs.Operators.{fits}
use Rattle.away_values.specs.BigintSpellings.{number_of, signed, bigint_of}

own : IsNumeralModel (λ ds. all_ascii_digits ds ≡ true) (digits_value 10)
own = numerals_by_value (λ ds. all_ascii_digits ds ≡ true) tells_all_ascii_digits

-- ---- the range

neg_fits : (v : ℕ) → v ≤ 2 ^ 63 → fits (neg_ℤ (pos v)) ≡ true
neg_fits zero h = refl
neg_fits (suc n) h = lt-ltb n (2 ^ 63) (omega arith)

neg_within : (v : ℕ) → fits (neg_ℤ (pos v)) ≡ true → v ≤ 2 ^ 63
neg_within zero h = omega arith
neg_within (suc n) h = let k : n < 2 ^ 63 = ltb-true n (2 ^ 63) h in omega arith

-- ---- digits after a sign

number_some : (c : ℕ) (cs : List ℕ) → all_ascii_digits (c ∷ cs) ≡ true → number_of (c ∷ cs) ≡ Some (digits_value 10 (c ∷ cs))
number_some c cs h = ap (λ b. if b then Some (digits_value 10 (c ∷ cs)) else None) h

number_none : (c : ℕ) (cs : List ℕ) → all_ascii_digits (c ∷ cs) ≡ false → number_of (c ∷ cs) ≡ None
number_none c cs h = ap (λ b. if b then Some (digits_value 10 (c ∷ cs)) else None) h

out_of_range : {P : Type 0} (n : ℤ) → (fits n ≡ true → P) → ¬ P → fits n ≡ false
out_of_range n from fails = elim (cases_Bool (fits n)) [ inl holds ↦ absurd (fails (from holds)) | inr off ↦ off ]

found : {E : Type 0} (sign : ℕ → ℤ) (ds : List ℕ) (r : Result ℤ E) (P : Type 0) → (P → fits (sign (digits_value 10 ds)) ≡ true) → (fits (sign (digits_value 10 ds)) ≡ true → P)
    → OkIff r ((all_ascii_digits ds ≡ true) × (0 < length ds) × P) (sign (digits_value 10 ds)) → result_ok r ≡ signed sign (number_of ds)
found sign [] (Ok n) P to from h = absurd (omega (arith, h.0.1))
found sign [] (Err e) P to from h = refl
found sign (c ∷ cs) (Ok n) P to from h =
    let v = sign (digits_value 10 (c ∷ cs)) in
    ap Some h.1 ∙ sym (ap (signed sign) (number_some c cs h.0.0) ∙ ap (λ b. if b then Some v else None) (to h.0.2))
found sign (c ∷ cs) (Err e) P to from h =
    let v = sign (digits_value 10 (c ∷ cs)) in
    elim (cases_Bool (all_ascii_digits (c ∷ cs))) [
      | inl holds ↦ sym (ap (signed sign) (number_some c cs holds) ∙ ap (λ b. if b then Some v else None) (out_of_range v from (λ p. h (holds, omega arith, p))))
      | inr fails ↦ sym (ap (signed sign) (number_none c cs fails))
    ]

pos_found : {E : Type 0} (ds : List ℕ) (r : Result ℤ E) → OkIff r ((all_ascii_digits ds ≡ true) × (0 < length ds) × (digits_value 10 ds < 2 ^ 63)) (pos (digits_value 10 ds))
    → result_ok r ≡ signed pos (number_of ds)
pos_found ds r h = found pos ds r (digits_value 10 ds < 2 ^ 63) (lt-ltb (digits_value 10 ds) (2 ^ 63)) (ltb-true (digits_value 10 ds) (2 ^ 63)) h

-- ---- the whole text

abbrev by_sign : List ℕ → List ℕ → Bool → Bool → Option ℤ
by_sign whole rest minus plus = if minus then signed (λ n. neg_ℤ (pos n)) (number_of rest) else (if plus then signed pos (number_of rest) else signed pos (number_of whole))

pub parsed : {E : Type 0} (bs : List ℕ) (r : Result ℤ E) → ParsesSigned w64 10 bs r → result_ok r ≡ bigint_of bs
parsed [] r h = pos_found [] r (parse_signed_plain own w64 [] r h (λ e. omega (arith, e)) (λ e. omega (arith, e)))
parsed (c ∷ cs) r h =
    elim (cases_Bool (nat_eq c 45)) [
      | inl minus ↦
          found (λ n. neg_ℤ (pos n)) cs r (digits_value 10 cs ≤ 2 ^ 63) (neg_fits (digits_value 10 cs)) (neg_within (digits_value 10 cs)) (parse_signed_minus own w64 (c ∷ cs) r h (eqb-true c 45 minus))
          ∙ sym (ap (λ b. by_sign (c ∷ cs) cs b (nat_eq c 43)) minus)
      | inr no_minus ↦ elim (cases_Bool (nat_eq c 43)) [
        | inl plus ↦ pos_found cs r (parse_signed_plus own w64 (c ∷ cs) r h (eqb-true c 43 plus))
            ∙ sym (ap (λ b. by_sign (c ∷ cs) cs b (nat_eq c 43)) no_minus ∙ ap (λ b. by_sign (c ∷ cs) cs false b) plus)
        | inr no_plus ↦ pos_found (c ∷ cs) r (parse_signed_plain own w64 (c ∷ cs) r h (λ e. eqb-false c 43 no_plus e) (λ e. eqb-false c 45 no_minus e))
            ∙ sym (ap (λ b. by_sign (c ∷ cs) cs b (nat_eq c 43)) no_minus ∙ ap (λ b. by_sign (c ∷ cs) cs false b) no_plus)
      ]
    ]

-- ---- a text that writes a bigint is ASCII

ascii_digits : (ds : List ℕ) → all_ascii_digits ds ≡ true → IsAscii ds
ascii_digits [] h i = omega arith
ascii_digits (c ∷ cs) h zero = let range = (tells_all_ascii_digits.parts c cs h).0 in omega (arith, range.0, range.1)
ascii_digits (c ∷ cs) h (suc i) = ascii_digits cs (tells_all_ascii_digits.parts c cs h).1 i

ascii_cons : (c : ℕ) (cs : List ℕ) → c < 128 → IsAscii cs → IsAscii (c ∷ cs)
ascii_cons c cs small rest zero = small
ascii_cons c cs small rest (suc i) = rest i

ascii_number : (ds : List ℕ) (n : ℕ) → number_of ds ≡ Some n → IsAscii ds
ascii_number [] n e = cc e
ascii_number (c ∷ cs) n e =
    elim (cases_Bool (all_ascii_digits (c ∷ cs))) [
      | inl holds ↦ ascii_digits (c ∷ cs) holds
      | inr fails ↦ let none : ◌≡◌ {A = Option ℕ} None (Some n) = sym (number_none c cs fails) ∙ e in cc none
    ]

number_there : (sign : ℕ → ℤ) (o : Option ℕ) (n : ℤ) → signed sign o ≡ Some n → (m : ℕ) × (o ≡ Some m)
number_there sign None n e = cc e
number_there sign (Some m) n e = (m, refl)

ascii_signed : (sign : ℕ → ℤ) (ds : List ℕ) (n : ℤ) → signed sign (number_of ds) ≡ Some n → IsAscii ds
ascii_signed sign ds n e = let m = number_there sign (number_of ds) n e in ascii_number ds m.0 m.1

ascii_bigint : (bs : List ℕ) (n : ℤ) → bigint_of bs ≡ Some n → IsAscii bs
ascii_bigint [] n e = cc e
ascii_bigint (c ∷ cs) n e =
    elim (cases_Bool (nat_eq c 45)) [
      | inl minus ↦
          let rest = ascii_signed (λ n. neg_ℤ (pos n)) cs n (sym (ap (λ b. by_sign (c ∷ cs) cs b (nat_eq c 43)) minus) ∙ e) in
          let is : c ≡ 45 = eqb-true c 45 minus in
          ascii_cons c cs (omega arith) rest
      | inr no_minus ↦
          let from = sym (ap (λ b. by_sign (c ∷ cs) cs b (nat_eq c 43)) no_minus) ∙ e in
          elim (cases_Bool (nat_eq c 43)) [
            | inl plus ↦
                let rest = ascii_signed pos cs n (sym (ap (λ b. by_sign (c ∷ cs) cs false b) plus) ∙ from) in
                let is : c ≡ 43 = eqb-true c 43 plus in
                ascii_cons c cs (omega arith) rest
            | inr no_plus ↦ ascii_signed pos (c ∷ cs) n (sym (ap (λ b. by_sign (c ∷ cs) cs false b) no_plus) ∙ from)
          ]
    ]

none_of : {A : Type 0} (o : Option A) → ((a : A) → o ≡ Some a → ⊥) → o ≡ None
none_of None fails = refl
none_of (Some a) fails = absurd (fails a refl)

pub no_bigint : (bs : List ℕ) → ¬ (IsUtf8 bs) → bigint_of bs ≡ None
no_bigint bs fails = none_of (bigint_of bs) (λ n e. fails (IsUtf8-from_ascii bs (ascii_bigint bs n e)))
