-- When five letters are a class.
use Rattle.std.proofs.Common.{◌≡◌, refl, ◌∙◌, ap, ℕ, Bool, true, false, not, ◌==◌, ◌&&◌, if◌then◌else◌, List, [], ◌∷◌, length, Option, Some, None, arith, codes, bytes_eq}
use Rattle.std.proofs.lemmas.Bool.Decides.{nat_tests}
use Rattle.std.specs.List.{list_all}
use Rattle.away_values.specs.declared.values.Answer.TheVariants as answer
use Rattle.away_values.specs.declared.values.Class.{Class}
use Rattle.away_values.specs.declared.values.Value.TheVariants as val
use Rattle.away_values.specs.Results.{class}
use Rattle.sql_meaning.specs.Working.{answer_of_rows}
use Rattle.away_values.specs.Classes.{is_class, is_class_char}
use Rattle.sql_eval.specs.Classes.{class_char, class_told, zeros}

-- a test of five letters, by what is known of each
abbrev told : Bool → List ℕ → Option Class
told b t = if b then Some (class t) else None

abbrev all_five : Bool → Bool → Bool → Bool → Bool → Bool → Bool
all_five p q r s t z = (p && (q && (r && (s && (t && true))))) && not z

zeros_are : (a b c d e : ℕ) → bytes_eq (a ∷ b ∷ c ∷ d ∷ e ∷ []) (codes "00000") ≡ zeros a b c d e
unfolding zeros
zeros_are a b c d e = refl

is_five : (a b c d e : ℕ) → is_class (a ∷ b ∷ c ∷ d ∷ e ∷ []) ≡ all_five (class_char a) (class_char b) (class_char c) (class_char d) (class_char e) (zeros a b c d e)
unfolding class_char
is_five a b c d e = ap (λ z. (is_class_char a && (is_class_char b && (is_class_char c && (is_class_char d && (is_class_char e && true))))) && not z) (zeros_are a b c d e)

told_five : (a b c d e : ℕ) (p q r s t z : Bool) → class_char a ≡ p → class_char b ≡ q → class_char c ≡ r → class_char d ≡ s → class_char e ≡ t → zeros a b c d e ≡ z → class_told (a ∷ b ∷ c ∷ d ∷ e ∷ []) ≡ told (all_five p q r s t z) (a ∷ b ∷ c ∷ d ∷ e ∷ [])
unfolding class_told
told_five a b c d e p q r s t z hp hq hr hs ht hz = ap (λ x. if x then Some (class (a ∷ b ∷ c ∷ d ∷ e ∷ [])) else None) (is_five a b c d e ∙ λ i. all_five (hp i) (hq i) (hr i) (hs i) (ht i) (hz i))

pub five_given : (a b c d e : ℕ) → class_char a ≡ true → class_char b ≡ true → class_char c ≡ true → class_char d ≡ true → class_char e ≡ true → zeros a b c d e ≡ false → class_told (a ∷ b ∷ c ∷ d ∷ e ∷ []) ≡ Some (class (a ∷ b ∷ c ∷ d ∷ e ∷ []))
five_given a b c d e p q r s t z = told_five a b c d e true true true true true false p q r s t z

pub zeros_not : (a b c d e : ℕ) → class_char a ≡ true → class_char b ≡ true → class_char c ≡ true → class_char d ≡ true → class_char e ≡ true → zeros a b c d e ≡ true → class_told (a ∷ b ∷ c ∷ d ∷ e ∷ []) ≡ None
zeros_not a b c d e p q r s t z = told_five a b c d e true true true true true true p q r s t z

pub first_not : (a b c d e : ℕ) → class_char a ≡ false → class_told (a ∷ b ∷ c ∷ d ∷ e ∷ []) ≡ None
first_not a b c d e p = told_five a b c d e false _ _ _ _ _ p refl refl refl refl refl

pub second_not : (a b c d e : ℕ) → class_char a ≡ true → class_char b ≡ false → class_told (a ∷ b ∷ c ∷ d ∷ e ∷ []) ≡ None
second_not a b c d e p q = told_five a b c d e true false _ _ _ _ p q refl refl refl refl

pub third_not : (a b c d e : ℕ) → class_char a ≡ true → class_char b ≡ true → class_char c ≡ false → class_told (a ∷ b ∷ c ∷ d ∷ e ∷ []) ≡ None
third_not a b c d e p q r = told_five a b c d e true true false _ _ _ p q r refl refl refl

pub fourth_not : (a b c d e : ℕ) → class_char a ≡ true → class_char b ≡ true → class_char c ≡ true → class_char d ≡ false → class_told (a ∷ b ∷ c ∷ d ∷ e ∷ []) ≡ None
fourth_not a b c d e p q r s = told_five a b c d e true true true false _ _ p q r s refl refl

pub fifth_not : (a b c d e : ℕ) → class_char a ≡ true → class_char b ≡ true → class_char c ≡ true → class_char d ≡ true → class_char e ≡ false → class_told (a ∷ b ∷ c ∷ d ∷ e ∷ []) ≡ None
fifth_not a b c d e p q r s t = told_five a b c d e true true true true false _ p q r s t refl

other_number : (n : ℕ) → (n ≡ 5 → ⊥) → (n == 5) ≡ false
other_number n h = grind (arith, nat_tests)

pub other_length : (t : List ℕ) → (length t ≡ 5 → ⊥) → class_told t ≡ None
unfolding class_told
other_length t h = ap (λ b. if b && (list_all is_class_char t && not (bytes_eq t (codes "00000"))) then Some (class t) else None) (other_number (length t) h)

pub fault_told : (t : List ℕ) (c : Class) → class_told t ≡ Some c → answer_of_rows ((val.Null ∷ val.Text t ∷ []) ∷ []) ≡ answer.Fault c
unfolding class_told
fault_told t c h = by (is_class t) h
  where
    by : (b : Bool) → (if b then Some (class t) else None) ≡ Some c → (if b then answer.Fault (class t) else answer.Shape 1) ≡ answer.Fault c
    by true e = cc
    by false e = cc

abbrev no_class : Option Class
no_class = None

pub shape_told : (t : List ℕ) → class_told t ≡ None → answer_of_rows ((val.Null ∷ val.Text t ∷ []) ∷ []) ≡ answer.Shape 1
unfolding class_told
shape_told t h = by (is_class t) h
  where
    by : (b : Bool) → (if b then Some (class t) else None) ≡ no_class → (if b then answer.Fault (class t) else answer.Shape 1) ≡ answer.Shape 1
    by true e = cc
    by false e = refl

pub ruleset class_rules = (five_given, zeros_not, first_not, second_not, third_not, fourth_not, fifth_not, other_length)

pub ruleset fault_rules = (fault_told, shape_told)
