-- The number that std reads from digits is the bound that they write.
use Rattle.std.proofs.Common.{◌≡◌, refl, sym, ◌∙◌, ap, subst, ℕ, ◌<◌, ◌^◌, arith, Bool, true, false, eqb, get_or, List, [], ◌∷◌, length, inl, inr}
use Rattle.std.specs.Prelude.{Option, Some, None, Result, Ok, Err, if◌then◌else◌, nat_lt}
use Rattle.std.specs.Option.{option_and_then}
use Rattle.std.specs.Result.{OkIff, result_ok}
use Rattle.std.specs.Str.{all_ascii_digits}
use Rattle.std.specs.Str.Parse.{ParsesUnsigned, digits_value}
use Rattle.std.proofs.lemmas.Bool.{cases_Bool, eqb-false, eqb-true, lt-ltb, ltb-true}
use Rattle.std.proofs.lemmas.Str.Parse.{IsNumeralModel, numerals_by_value, tells_all_ascii_digits, parse_plain}
use Rattle.away_top.specs.Arguments.{bound_of}

own : IsNumeralModel (λ ds. all_ascii_digits ds ≡ true) (digits_value 10)
own = numerals_by_value (λ ds. all_ascii_digits ds ≡ true) tells_all_ascii_digits

abbrev within : ℕ → Option ℕ
within n = if nat_lt n (2 ^ 64) then Some n else None

abbrev digits_within : ℕ → Bool → Option ℕ
digits_within n are_digits = option_and_then within (if are_digits then Some n else None)

found : {E : Type 0} (bs : List ℕ) (r : Result ℕ E) → OkIff r ((all_ascii_digits bs ≡ true) × (0 < length bs) × (digits_value 10 bs < 2 ^ 64)) (digits_value 10 bs) → result_ok r ≡ bound_of bs
unfolding bound_of
found [] (Ok n) h = absurd (omega (arith, h.0.1))
found [] (Err e) h = refl
found (c ∷ cs) (Ok n) h =
    let v = digits_value 10 (c ∷ cs) in
    ap Some h.1 ∙ sym (ap (digits_within v) h.0.0 ∙ ap (λ b. if b then Some v else None) (lt-ltb v (2 ^ 64) h.0.2))
found (c ∷ cs) (Err e) h =
    let v = digits_value 10 (c ∷ cs) in
    elim (cases_Bool (all_ascii_digits (c ∷ cs))) [
      | inl digits ↦ elim (cases_Bool (nat_lt v (2 ^ 64))) [
        | inl fits ↦ absurd (h (digits, omega arith, ltb-true v (2 ^ 64) fits))
        | inr off ↦ sym (ap (digits_within v) digits ∙ ap (λ b. if b then Some v else None) off)
      ]
      | inr others ↦ sym (ap (digits_within v) others)
    ]

pub bound_read : {E : Type 0} (bs : List ℕ) (r : Result ℕ E) → eqb (get_or bs 0 0) 43 ≡ false → ParsesUnsigned 64 10 bs r → result_ok r ≡ bound_of bs
bound_read bs r unsigned h = found bs r (parse_plain own 64 bs r h (λ e. eqb-false (get_or bs 0 0) 43 unsigned e))

-- a sign is no digit
pub no_bound : (bs : List ℕ) → eqb (get_or bs 0 0) 43 ≡ true → bound_of bs ≡ None
unfolding bound_of
no_bound [] h = refl
no_bound (c ∷ cs) h = subst (λ c. bound_of (c ∷ cs) ≡ None) (sym (eqb-true c 43 h)) refl

pub ruleset bounds = (bound_read, no_bound)
