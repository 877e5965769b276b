-- The bytes of a class are a text, and its characters.
use Rattle.std.proofs.Common.{◌≡◌, ℕ, ◌<◌, Bool, true, false, ◌&&◌, not, ◌==◌, eqb, List, [], ◌∷◌, length, refl, sym, ap, subst, ◌∙◌, arith, chars, bytes_eq, codes}
use Rattle.std.proofs.lemmas.Bool.{eqb-true}
use Rattle.std.proofs.lemmas.Bool.Decides.{nat_tests}
use Rattle.std.proofs.lemmas.Str.{chars-IsAscii, IsUtf8-from_ascii}
use Rattle.std.proofs.lemmas.Str.Ascii.{IsAscii-cons, IsAscii-nil}
use Rattle.std.specs.List.{list_all}
use Rattle.std.specs.Prelude.{IsAscii, IsUtf8, MatchOption, Option, Some, None}
use Rattle.std.proofs.lemmas.Option.{same_Some}
use Rattle.away_values.specs.Classes.{is_class, is_class_char}
use Rattle.away_values.specs.Words.{IsWord, HasNoZero}

first_true : (a b : Bool) → (a && b) ≡ true → a ≡ true
first_true true b h = refl
first_true false b h = h

second_true : (a b : Bool) → (a && b) ≡ true → b ≡ true
second_true true b h = h
second_true false b h = absurd (cc)

small : (c : ℕ) → is_class_char c ≡ true → c < 128
small c h = grind (arith, nat_tests)

not_zero : (c : ℕ) → is_class_char c ≡ true → not (eqb c 0) ≡ true
not_zero c h = grind (arith, nat_tests)

ascii : (t : List ℕ) → list_all is_class_char t ≡ true → IsAscii t
ascii [] h = IsAscii-nil
ascii (c ∷ t) h = IsAscii-cons c t (small c (first_true (is_class_char c) (list_all is_class_char t) h)) (ascii t (second_true (is_class_char c) (list_all is_class_char t) h))

no_zeros : (t : List ℕ) → list_all is_class_char t ≡ true → HasNoZero t
no_zeros [] h = refl
no_zeros (c ∷ t) h =
    ap (λ b. b && list_all (λ b. not (eqb b 0)) t) (not_zero c (first_true (is_class_char c) (list_all is_class_char t) h)) ∙ no_zeros t (second_true (is_class_char c) (list_all is_class_char t) h)

all_chars : (t : List ℕ) → is_class t ≡ true → list_all is_class_char t ≡ true
all_chars t h = first_true (list_all is_class_char t) (not (bytes_eq t (codes "00000"))) (second_true (length t == 5) _ h)

class_length : (t : List ℕ) → is_class t ≡ true → length t ≡ 5
class_length t h = eqb-true (length t) 5 (first_true (length t == 5) _ h)

pub class_utf8 : (t : List ℕ) → is_class t ≡ true → IsUtf8 t
class_utf8 t h = IsUtf8-from_ascii t (ascii t (all_chars t h))

pub class_word : (t : List ℕ) → is_class t ≡ true → IsWord t
class_word t h = record { short = omega (arith, class_length t h); no_zero = no_zeros t (all_chars t h) }

pub class_chars : (t : List ℕ) → is_class t ≡ true → chars t ≡ t
class_chars t h = chars-IsAscii t (ascii t (all_chars t h))

-- ---- the text of a class as a word

abbrev Found : List ℕ → Option (List ℕ) → Type 0
Found t found = MatchOption found (IsWord t → ⊥) (λ w. IsWord t × (w ≡ chars t))

pub no_word : (code t : List ℕ) → t ≡ code → is_class code ≡ true → (found : Option (List ℕ)) → Found t found → found ≡ None → ⊥
no_word code t same h None f e = f (subst IsWord (sym same) (class_word code h))
no_word code t same h (Some w) f e = cc

pub the_word : (code t : List ℕ) → t ≡ code → is_class code ≡ true → (found : Option (List ℕ)) (w : List ℕ) → Found t found → found ≡ Some w → w ≡ code
the_word code t same h None w f e = absurd (cc)
the_word code t same h (Some v) w f e = sym (same_Some v w e) ∙ (f.1 ∙ (ap chars same ∙ class_chars code h))
