-- Steps of the plans of headers.
use Rattle.std.proofs.Common.{◌+◌, ◌<◌, ◌∙◌, [], ◌++◌, inl, inr, length, take, get_or, ap, arith, zero-add, chars, bytes_eq, nat_lt, ◌≡◌, ℕ, Bool, true, false, if◌then◌else◌, List, ◌∷◌, Option, Some, None, Result, Err, refl, sym, subst}
use Rattle.std.proofs.lemmas.Bool.{cases_Bool, ltb-true}
use Rattle.std.proofs.lemmas.List.{take_more}
use Rattle.std.proofs.lemmas.Slice.Eq.{bytes_eq-Decides}
use Rattle.std.proofs.lemmas.Str.{chars-IsAscii, encodes-IsAscii, encodes-chars}
use Rattle.std.proofs.lemmas.Str.Ascii.{IsAscii-cons, IsAscii-nil}
use Rattle.std.specs.List.{list_all}
use Rattle.std.specs.Prelude.{IsAscii, IsUtf8}
use lib.Utf8.{encodes}
use Rattle.away_grammar.specs.declared.grammar.Attribute.{Attribute}
use Rattle.away_grammar.specs.declared.grammar.Mark.TheVariants as m
use Rattle.away_grammar.specs.declared.grammar.Mark.{Mark}
use Rattle.away_grammar.specs.FunctionGrammar.{Part, PartTree, attribute_of, times}
use Rattle.away_grammar.specs.Terminals.{Terminal}
use Rattle.away_lex.proofs.Runs.{and_left, and_right}
use Rattle.sql_text.specs.declared.refusal.Refusal.{Refusal}
use Rattle.sql_text.specs.declared.refusal.Refusal.TheVariants.{NoTree}
use Rattle.sql_text.specs.Plans.{want, first, tail, is_some, Gives}
use Rattle.sql_text.proofs.Steps.{looked, overlooked, taken, moved, failed, wanted, unwanted}
use Rattle.plsql_parse.specs.Headers.{attribute_mark_plan}
use Rattle.plsql_parse.specs.Plans.{any_plan}
use Rattle.plsql_parse.specs.Sorts.{AnyTree, PartPlan, part, begins_word, eat_word, expect_word}

-- the word stood next and was taken
pub word_eaten : {p : Part} {a b : PartPlan p} {ts rest new : List Terminal} {r : Result (PartTree p) Refusal} (w : List ℕ) → (begins_word w ts ≡ true) × (rest ≡ tail ts) → Gives AnyTree any_plan (part p) a rest r new
    → Gives AnyTree any_plan (part p) (eat_word w a b) ts r new
word_eaten w h d = looked h.0 (taken refl h.1 d)

-- the word doesn't stand next
pub word_left : {p : Part} {a b : PartPlan p} {ts same new : List Terminal} {r : Result (PartTree p) Refusal} (w : List ℕ) → (begins_word w ts ≡ false) × (same ≡ ts) → Gives AnyTree any_plan (part p) b same r new
    → Gives AnyTree any_plan (part p) (eat_word w a b) ts r new
word_left w h d = overlooked h.0 (moved h.1 d)

-- the word had to stand next and doesn't
pub word_refused : {p : Part} {a : PartPlan p} {ts new : List Terminal} {e : Refusal} (w : List ℕ) → (e ≡ NoTree) × (begins_word w ts ≡ false) → Gives AnyTree any_plan (part p) (expect_word w a) ts (Err e) new
word_refused {p = p} {a = a} {ts = ts} {new = new} w h = subst (λ e. Gives AnyTree any_plan (part p) (expect_word w a) ts (Err e) new) (sym h.0) (overlooked h.1 failed)

-- ---- by a test

pub then_on : {p : Part} {a : PartPlan p} (b : PartPlan p) {ts new : List Terminal} {r : Result (PartTree p) Refusal} {test : Bool} → test ≡ true → Gives AnyTree any_plan (part p) a ts r new → Gives AnyTree any_plan (part p) (if test then a else b) ts r new
then_on {p = p} {a = a} b {ts = ts} {new = new} {r = r} h d = subst (λ test. Gives AnyTree any_plan (part p) (if test then a else b) ts r new) (sym h) d

pub else_on : {p : Part} (a : PartPlan p) {b : PartPlan p} {ts new : List Terminal} {r : Result (PartTree p) Refusal} {test : Bool} → test ≡ false → Gives AnyTree any_plan (part p) b ts r new → Gives AnyTree any_plan (part p) (if test then a else b) ts r new
else_on {p = p} a {b = b} {ts = ts} {new = new} {r = r} h d = subst (λ test. Gives AnyTree any_plan (part p) (if test then a else b) ts r new) (sym h) d

-- what stood next is of the kind
pub kind_taken : {p : Part} {A : Type 0} (kind : Option Terminal → Option A) (o : Option A) (a : PartPlan p) {ts rest new : List Terminal} {r : Result (PartTree p) Refusal} → kind (first ts) ≡ o → true ≡ is_some o → rest ≡ tail ts
    → Gives AnyTree any_plan (part p) a rest r new → Gives AnyTree any_plan (part p) (want kind (λ x. a)) ts r new
kind_taken kind None a e h q d = absurd (cc h)
kind_taken kind (Some x) a e h q d = wanted kind (λ x. a) e q d

pub kind_missed : {p : Part} {A : Type 0} (kind : Option Terminal → Option A) (o : Option A) (a : PartPlan p) {ts new : List Terminal} → kind (first ts) ≡ o → false ≡ is_some o
    → Gives AnyTree any_plan (part p) (want kind (λ x. a)) ts (Err NoTree) new
kind_missed kind None a e h = unwanted kind (λ x. a) e
kind_missed kind (Some x) a e h = absurd (cc h)

-- ---- attributes

-- marks that begin no attribute
pub no_attribute : (terminal : Mark) {ts new : List Terminal} → ¬ (terminal ≡ m.As) → ¬ (terminal ≡ m.Strict) → ¬ (terminal ≡ m.Not) → Gives AnyTree any_plan (part attribute_of) (attribute_mark_plan terminal) ts (Err NoTree) new
no_attribute m.As a b c = absurd (a refl)
no_attribute m.Strict a b c = absurd (b refl)
no_attribute m.Not a b c = absurd (c refl)
no_attribute _ a b c = failed

ascii_from : (bs : List ℕ) → list_all (λ b. nat_lt b 128) bs ≡ true → IsAscii bs
ascii_from [] e = IsAscii-nil
ascii_from (b ∷ bs) e =
    let rest = list_all (λ b. nat_lt b 128) bs in
    IsAscii-cons b bs (ltb-true b 128 (and_left (nat_lt b 128) rest e)) (ascii_from bs (and_right (nat_lt b 128) rest e))

-- a text is an ASCII word where its code points are
pub text_is : (z w : List ℕ) → IsUtf8 z → list_all (λ b. nat_lt b 128) w ≡ true → bytes_eq (chars z) w ≡ bytes_eq z w
text_is z w utf8 plain = elim (cases_Bool (bytes_eq z w)) [
  | inl y ↦ (let same : z ≡ w = (bytes_eq-Decides z w).0 y in ap (λ x. bytes_eq (chars x) w) same ∙ ap (λ x. bytes_eq x w) (chars-IsAscii w (ascii_from w plain)) ∙ sym (ap (λ x. bytes_eq x w) same))
  | inr n ↦ elim (cases_Bool (bytes_eq (chars z) w)) [
    | inl y ↦ absurd (let same : z ≡ w = sym (encodes-chars z utf8) ∙ ap encodes ((bytes_eq-Decides (chars z) w).0 y) ∙ encodes-IsAscii w (ascii_from w plain) in let yes : bytes_eq z w ≡ true = (bytes_eq-Decides z w).1 same in cc (yes, n))
    | inr k ↦ k ∙ sym n
  ]
]

times_append : (of_group : Attribute → Bool) (xs ys : List Attribute) → times of_group (xs ++ ys) ≡ times of_group xs + times of_group ys
times_append of_group [] ys = sym (zero-add (times of_group ys))
times_append of_group (x ∷ xs) ys = elim (cases_Bool (of_group x)) [
  | inl y ↦ rw (y, times_append of_group xs ys) (omega arith)
  | inr n ↦ rw (n, times_append of_group xs ys) refl
]

times_one : (of_group : Attribute → Bool) (x : Attribute) (b : Bool) → b ≡ of_group x → times of_group (x ∷ []) ≡ (if b then 1 else 0)
times_one of_group x b e = ap (λ b. if b then 1 + 0 else 0) (sym e)

times_more : (of_group : Attribute → Bool) (xs : List Attribute) (i : ℕ) (d : Attribute) → i < length xs → times of_group (take (i + 1) xs) ≡ times of_group (take i xs) + times of_group (get_or xs i d ∷ [])
times_more of_group xs i d h = ap (times of_group) (take_more xs i d h) ∙ times_append of_group (take i xs) (get_or xs i d ∷ [])

-- the next one is of the group
pub times_counted : (of_group : Attribute → Bool) (xs : List Attribute) (i : ℕ) (d : Attribute) (count next : ℕ) → i < length xs → true ≡ of_group (get_or xs i d) → count ≡ times of_group (take i xs) → next ≡ count + 1
    → next ≡ times of_group (take (i + 1) xs)
times_counted of_group xs i d count next h e c n = omega (arith, times_more of_group xs i d h, times_one of_group (get_or xs i d) true e, c, n)

-- the next one isn't
pub times_passed : (of_group : Attribute → Bool) (xs : List Attribute) (i : ℕ) (d : Attribute) (count next : ℕ) → i < length xs → false ≡ of_group (get_or xs i d) → count ≡ times of_group (take i xs) → next ≡ count
    → next ≡ times of_group (take (i + 1) xs)
times_passed of_group xs i d count next h e c n = omega (arith, times_more of_group xs i d h, times_one of_group (get_or xs i d) false e, c, n)
