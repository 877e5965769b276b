-- A class of five digits or upper-case letters is a text, and is spelled by it.
use Rattle.std.proofs.Common.{◌≡◌, ℕ, ◌<◌, Bool, true, false, ◌&&◌, ◌==◌, cond, List, [], ◌∷◌, length, Some, None, Result, Ok, Err, IfOk, refl, ap, ◌∙◌, arith}
use Rattle.std.proofs.lemmas.Bool.Decides.{nat_tests}
use Rattle.std.proofs.lemmas.Str.{IsUtf8-from_ascii}
use Rattle.std.proofs.lemmas.Str.Ascii.{IsAscii-cons, IsAscii-nil}
use Rattle.std.specs.List.{list_all}
use Rattle.std.specs.Prelude.{IsAscii, IsUtf8}
use Rattle.serde_json.specs.Data.{null, string}
use Rattle.away_values.specs.Classes.{is_class_char}
use Rattle.away_values.specs.Results.{class}
use Rattle.call_forms.specs.Writable.{is_code}
use Rattle.cert_json.specs.Forms.{Class}
use Rattle.cert_json.specs.Spellings.{class_in}
use Rattle.cert_json.specs.Written.{class_data}

first_true : (a b : Bool) → (a && b) ≡ true → a ≡ true
first_true true b h = refl
first_true false b h = h

second_true : (a b : Bool) → (a && b) ≡ true → b ≡ true
second_true true b h = h
second_true false b h = absurd (cc)

small : (c : ℕ) → is_class_char c ≡ true → c < 128
small c h = grind (arith, nat_tests)

ascii : (t : List ℕ) → list_all is_class_char t ≡ true → IsAscii t
ascii [] h = IsAscii-nil
ascii (c ∷ t) h = IsAscii-cons c t (small c (first_true (is_class_char c) (list_all is_class_char t) h)) (ascii t (second_true (is_class_char c) (list_all is_class_char t) h))

pub code_is_text : (t : List ℕ) → is_code t ≡ true → IsUtf8 t
code_is_text t h = IsUtf8-from_ascii t (ascii t (second_true (length t == 5) (list_all is_class_char t) h))

pub class_again : (c : Class) → is_code c.code ≡ true → class_in (class_data c) ≡ Some c
unfolding class_in class_data
class_again c h = ap (λ b. class_in (cond b (string c.code) null)) h ∙ ap (λ b. cond b (Some (class c.code)) None) h

pub whenever : {A E : Type 0} (r : Result A E) (P : A → Type 0) → ((a : A) → P a) → IfOk r P
whenever (Ok a) P h = h a
whenever (Err e) P h = tt
