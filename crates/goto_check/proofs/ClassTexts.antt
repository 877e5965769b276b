-- A text that is a class is its own bytes.
use Rattle.std.proofs.Common.{◌≡◌, ℕ, ◌<◌, Bool, true, false, ◌&&◌, not, ◌==◌, List, [], ◌∷◌, length, inl, inr, refl, sym, ap, ◌∙◌, arith, chars, bytes_eq, codes}
use Rattle.std.proofs.lemmas.Bool.{cases_Bool, eqb-true}
use Rattle.std.proofs.lemmas.Bool.Decides.{nat_tests}
use Rattle.std.proofs.lemmas.Slice.Eq.{bytes_eq-Decides}
use Rattle.std.proofs.lemmas.Str.{chars-IsAscii, encodes-IsAscii, encodes-chars}
use Rattle.std.proofs.lemmas.Str.Ascii.{IsAscii-cons, IsAscii-nil}
use Rattle.std.specs.List.{list_all}
use Rattle.std.specs.Prelude.{IsAscii, IsUtf8}
use lib.Utf8.{encodes}
use Rattle.away_values.specs.Classes.{is_class, is_class_char}

first_true : (a b : Bool) → (a && b) ≡ true → a ≡ true
first_true true b h = refl
first_true false b h = h

second_true : (a b : Bool) → (a && b) ≡ true → b ≡ true
second_true true b h = h
second_true false b h = absurd (cc)

small : (c : ℕ) → is_class_char c ≡ true → c < 128
small c h = grind (arith, nat_tests)

ascii : (t : List ℕ) → list_all is_class_char t ≡ true → IsAscii t
ascii [] h = IsAscii-nil
ascii (c ∷ t) h = IsAscii-cons c t (small c (first_true (is_class_char c) (list_all is_class_char t) h)) (ascii t (second_true (is_class_char c) (list_all is_class_char t) h))

pub class_length : (t : List ℕ) → is_class t ≡ true → length t ≡ 5
class_length t h = eqb-true (length t) 5 (first_true (length t == 5) _ h)

pub class_bytes : (z : List ℕ) → IsUtf8 z → is_class (chars z) ≡ true → z ≡ chars z
class_bytes z utf8 h =
    let all = first_true (list_all is_class_char (chars z)) (not (bytes_eq (chars z) (codes "00000"))) (second_true (length (chars z) == 5) _ h) in
    sym (encodes-chars z utf8) ∙ encodes-IsAscii (chars z) (ascii (chars z) all)

zeros_ascii : IsAscii (48 ∷ 48 ∷ 48 ∷ 48 ∷ 48 ∷ [])
zeros_ascii = ascii (48 ∷ 48 ∷ 48 ∷ 48 ∷ 48 ∷ []) refl

-- five zeros are told by their bytes
pub zeros_are : (z : List ℕ) → IsUtf8 z → bytes_eq z (codes "00000") ≡ bytes_eq (chars z) (codes "00000")
zeros_are z utf8 = elim (cases_Bool (bytes_eq z (codes "00000"))) [
  | inl y ↦ (let same : z ≡ codes "00000" = (bytes_eq-Decides z (codes "00000")).0 y in sym (ap (λ x. bytes_eq (chars x) (codes "00000")) same ∙ ap (λ x. bytes_eq x (codes "00000")) (chars-IsAscii (codes "00000") zeros_ascii) ∙ sym (ap (λ x. bytes_eq x (codes "00000")) same)))
  | inr n ↦ elim (cases_Bool (bytes_eq (chars z) (codes "00000"))) [
    | inl y ↦ absurd (let same : z ≡ codes "00000" = sym (encodes-chars z utf8) ∙ ap encodes ((bytes_eq-Decides (chars z) (codes "00000")).0 y) ∙ encodes-IsAscii (codes "00000") zeros_ascii in let yes : bytes_eq z (codes "00000") ≡ true = (bytes_eq-Decides z (codes "00000")).1 same in cc (yes, n))
    | inr k ↦ n ∙ sym k
  ]
]
