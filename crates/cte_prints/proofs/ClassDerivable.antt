-- A class of faults can be written as a string.
use Rattle.std.proofs.Common.{◌≡◌, refl, sym, subst, ℕ, ◌<◌, ◌≤◌, Bool, true, false, not, ◌&&◌, ◌==◌, List, [], ◌∷◌, ◌++◌, length, eqb, encode_utf8_all, arith}
use Rattle.std.proofs.lemmas.Bool.Decides.{nat_tests}
use Rattle.std.proofs.lemmas.Str.{encode_ascii}
use Rattle.std.specs.List.{list_all}
use Rattle.std.specs.Str.{all_scalars}
use Rattle.away_values.specs.Classes.{is_class, is_class_char}
use Rattle.away_values.specs.Words.{IsWord, HasNoZero}

first_true : (a b : Bool) → (a && b) ≡ true → a ≡ true
first_true true b h = refl
first_true false b h = h

second_true : (a b : Bool) → (a && b) ≡ true → b ≡ true
second_true true b h = h
second_true false b h = absurd (cc)

low : (c : ℕ) → is_class_char c ≡ true → c < 128
low c h = grind (arith, nat_tests)

not_zero : (c : ℕ) → is_class_char c ≡ true → not (eqb c 0) ≡ true
not_zero c h = grind (arith, nat_tests)

all_low : (t : List ℕ) → list_all is_class_char t ≡ true → encode_utf8_all t ≡ t
all_low [] h = refl
all_low (c ∷ t) h =
    (λ i. encode_ascii c (low c (first_true (is_class_char c) (list_all is_class_char t) h)) i ++ all_low t
    (second_true (is_class_char c) (list_all is_class_char t) h) i)

no_zeros : (t : List ℕ) → list_all is_class_char t ≡ true → HasNoZero t
no_zeros [] h = refl
no_zeros (c ∷ t) h =
    (λ i. not_zero c (first_true (is_class_char c) (list_all is_class_char t) h) i && no_zeros t (second_true (is_class_char c) (list_all is_class_char t) h) i)

scalars_low : (t : List ℕ) → list_all is_class_char t ≡ true → all_scalars t ≡ true
scalars_low [] h = refl
scalars_low (c ∷ t) h =
    let small : c < 128 = low c (first_true (is_class_char c) (list_all is_class_char t) h) in
    let rest : all_scalars t ≡ true = scalars_low t (second_true (is_class_char c) (list_all is_class_char t) h) in
    grind (arith, nat_tests, small, rest)

five : (n : ℕ) → (n == 5) ≡ true → n ≤ 1048576
five n h = grind (arith, nat_tests)

pub class_is_text : (t : List ℕ) → is_class t ≡ true → (all_scalars t ≡ true) × IsWord (encode_utf8_all t)
class_is_text t h =
    let chars : list_all is_class_char t ≡ true = first_true (list_all is_class_char t) _ (second_true (length t == 5) _ h) in (
      scalars_low t chars,
      subst IsWord (sym (all_low t chars)) (record {
        short = five (length t) (first_true (length t == 5) _ h);
        no_zero = no_zeros t chars;
      }),
    )
