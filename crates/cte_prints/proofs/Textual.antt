-- The text of printed terminals is UTF-8 without U+0000.
use Rattle.std.proofs.Common.{◌≡◌, ◌<◌, ◌+◌, ℕ, zero, suc, Bool, true, false, not, ◌&&◌, eqb, nat_lt, if◌then◌else◌, List, [], ◌∷◌, ◌++◌, length}
use Rattle.std.proofs.Common.{get_or, map, refl, sym, subst, inl, inr, arith, append_assoc}
use Rattle.std.specs.Prelude.{decimal, encode_utf8_all, IsUtf8}
use Rattle.std.specs.List.{list_all}
use Rattle.std.specs.Char.{is_ascii_digit}
use Rattle.std.proofs.lemmas.Bool.{cases_Bool}
use Rattle.std.proofs.lemmas.Bool.Decides.{nat_tests}
use Rattle.std.proofs.lemmas.List.{length-append}
use Rattle.std.proofs.lemmas.Str.{IsUtf8-append, IsUtf8-drop, IsUtf8-take, IsUtf8-from_ascii, IsCharBoundary-after_ascii, IsCharBoundary-before_ascii}
use Rattle.std.proofs.Math.Seq.{take-append_seam, get_or-append_seam, drop-append-add}
use Rattle.away_grammar.specs.declared.grammar.Mark.{Mark}
use Rattle.away_grammar.specs.declared.grammar.Mark.TheVariants as m
use Rattle.away_values.specs.Words.{HasNoZero}
use Rattle.away_grammar.specs.Printing.{mark_spelled, spelled, terminals_text}
use Rattle.away_grammar.specs.Reserved.{calls}
use Rattle.away_grammar.specs.Terminals.{Terminal, mark, name, integer, string, parameter, quote}
use Rattle.away_grammar.specs.Spacing.{Spelled, written, laid, laid_behind}
use Rattle.away_grammar.specs.Spellings.{goes_on, doubled, quoted}
use Rattle.away_grammar.specs.Texts.{IsText}
use Rattle.away_lex.proofs.Runs.{and_left, and_right}
use Rattle.sql_printer.specs.Writable.{Writable, AllWritable}
use Rattle.sql_printer.proofs.PrintTokens.{spells}
use Rattle.cte_prints.proofs.Balanced.{IsPlain}
use Rattle.cte_prints.proofs.WithinRoom.{ArePlain}

record IsTextual (z : List ℕ) : Type 0 where
  utf8 : IsUtf8 z
  no_zero : HasNoZero z

-- ---- ASCII

-- a byte of ASCII but 0
abbrev is_tame : ℕ → Bool
is_tame b = not (eqb b 0) && nat_lt b 128

tame_low : (b : ℕ) → is_tame b ≡ true → b < 128
tame_low b h = grind (arith, nat_tests)

ascii_at : (z : List ℕ) → list_all is_tame z ≡ true → (i : ℕ) → get_or z i 0 < 128
ascii_at [] h i = omega arith
ascii_at (b ∷ z) h zero = tame_low b (and_left (is_tame b) (list_all is_tame z) h)
ascii_at (b ∷ z) h (suc i) = ascii_at z (and_right (is_tame b) (list_all is_tame z) h) i

all_so : (p q : ℕ → Bool) → ((b : ℕ) → p b ≡ true → q b ≡ true) → (z : List ℕ) → list_all p z ≡ true → list_all q z ≡ true
all_so p q f [] h = refl
all_so p q f (b ∷ z) h = rw (f b (and_left (p b) (list_all p z) h)) (all_so p q f z (and_right (p b) (list_all p z) h))

tame_textual : (z : List ℕ) → list_all is_tame z ≡ true → IsTextual z
tame_textual z h =
    let apart : HasNoZero z = all_so is_tame (λ b. not (eqb b 0)) (λ b k. and_left (not (eqb b 0)) (nat_lt b 128) k) z h in
    record { utf8 = IsUtf8-from_ascii z (ascii_at z h); no_zero = apart }

zeros_apart : (y z : List ℕ) → HasNoZero y → HasNoZero z → HasNoZero (y ++ z)
zeros_apart [] z h k = k
zeros_apart (b ∷ y) z h k =
    let first = and_left (not (eqb b 0)) (list_all (λ b. not (eqb b 0)) y) h in
    rw first (zeros_apart y z (and_right (not (eqb b 0)) (list_all (λ b. not (eqb b 0)) y) h) k)

joined : (y z : List ℕ) → IsTextual y → IsTextual z → IsTextual (y ++ z)
joined y z h k = record { utf8 = IsUtf8-append y z h.utf8 k.utf8; no_zero = zeros_apart y z h.no_zero k.no_zero }

behind_tame : (b : ℕ) (z : List ℕ) → is_tame b ≡ true → IsTextual z → IsTextual (b ∷ z)
behind_tame b z h k = joined (b ∷ []) z (tame_textual (b ∷ []) (rw h refl)) k

-- ---- strings

before_quote : (a r : List ℕ) → IsUtf8 (a ++ 39 ∷ r) → IsUtf8 a
before_quote a r u =
    let within : length a < length (a ++ 39 ∷ r) = omega (arith, length-append a (39 ∷ r)) in
    let ascii : get_or (a ++ 39 ∷ r) (length a) 0 < 128 = omega (arith, get_or-append_seam a 39 r 0) in
    subst IsUtf8 (take-append_seam a (39 ∷ r)) (IsUtf8-take (a ++ 39 ∷ r) (length a) u (IsCharBoundary-before_ascii (a ++ 39 ∷ r) (length a) within ascii))

behind_quote : (a r : List ℕ) → IsUtf8 (a ++ 39 ∷ r) → IsUtf8 r
behind_quote a r u =
    let within : length a < length (a ++ 39 ∷ r) = omega (arith, length-append a (39 ∷ r)) in
    let ascii : get_or (a ++ 39 ∷ r) (length a) 0 < 128 = omega (arith, get_or-append_seam a 39 r 0) in
    subst IsUtf8 (drop-append-add a (39 ∷ r) 1) (IsUtf8-drop (a ++ 39 ∷ r) (length a + 1) u (IsCharBoundary-after_ascii (a ++ 39 ∷ r) (length a) u within ascii))

quote_is : (b : ℕ) → eqb b 39 ≡ true → b ≡ 39
quote_is b h = grind (arith, nat_tests)

quotes : IsUtf8 (39 ∷ 39 ∷ [])
quotes = (tame_textual (39 ∷ 39 ∷ []) refl).utf8

-- a text with its quotes doubled is a text
doubled_utf8 : (a w : List ℕ) → IsUtf8 (a ++ w) → IsUtf8 (a ++ doubled w)
doubled_utf8 a [] u = u
doubled_utf8 a (b ∷ t) u = elim (cases_Bool (eqb b 39)) [
  | inl here ↦ (
      let split : IsUtf8 (a ++ 39 ∷ t) = subst (λ c. IsUtf8 (a ++ c ∷ t)) (quote_is b here) u in
      let rest : IsUtf8 (39 ∷ 39 ∷ doubled t) = IsUtf8-append (39 ∷ 39 ∷ []) (doubled t) quotes (doubled_utf8 [] t (behind_quote a t split)) in
      let whole : IsUtf8 (a ++ 39 ∷ 39 ∷ doubled t) = IsUtf8-append a (39 ∷ 39 ∷ doubled t) (before_quote a t split) rest in
      subst (λ c. IsUtf8 (a ++ (if c then 39 ∷ 39 ∷ doubled t else b ∷ doubled t))) (sym here) whole)
  | inr other ↦ (
      let rest : IsUtf8 ((a ++ b ∷ []) ++ doubled t) = doubled_utf8 (a ++ b ∷ []) t (subst IsUtf8 (sym (append_assoc a (b ∷ []) t)) u) in
      subst (λ c. IsUtf8 (a ++ (if c then 39 ∷ 39 ∷ doubled t else b ∷ doubled t))) (sym other) (subst IsUtf8 (append_assoc a (b ∷ []) (doubled t)) rest))
]

doubled_apart : (w : List ℕ) → HasNoZero w → HasNoZero (doubled w)
doubled_apart [] h = h
doubled_apart (b ∷ t) h =
    let first = and_left (not (eqb b 0)) (list_all (λ b. not (eqb b 0)) t) h in
    let rest = doubled_apart t (and_right (not (eqb b 0)) (list_all (λ b. not (eqb b 0)) t) h) in
    elim (cases_Bool (eqb b 39)) [
      | inl here ↦ subst (λ c. HasNoZero (if c then 39 ∷ 39 ∷ doubled t else b ∷ doubled t)) (sym here) rest
      | inr other ↦ subst (λ c. HasNoZero (if c then 39 ∷ 39 ∷ doubled t else b ∷ doubled t)) (sym other) (rw first rest)
    ]

quoted_textual : (w : List ℕ) → IsUtf8 w → HasNoZero w → IsTextual (quoted w)
quoted_textual w u h =
    let inside : IsTextual (doubled w) = record { utf8 = doubled_utf8 [] w u; no_zero = doubled_apart w h } in
    behind_tame 39 (doubled w ++ 39 ∷ []) refl (joined (doubled w) (39 ∷ []) inside (tame_textual (39 ∷ []) refl))

-- ---- terminals

goes_tame : (b : ℕ) → goes_on b ≡ true → is_tame b ≡ true
goes_tame b h = grind (arith, nat_tests)

digit_tame : (b : ℕ) → is_ascii_digit b ≡ true → is_tame b ≡ true
digit_tame b h = grind (arith, nat_tests)

mark_tame : (terminal : Mark) → list_all is_tame (mark_spelled terminal).text ≡ true
mark_tame m.Assign = refl
mark_tame _ = refl

spelled_textual : (s : Terminal) → Writable s → IsPlain s → IsTextual (spelled s).text
spelled_textual (mark terminal) h p = tame_textual (mark_spelled terminal).text (mark_tame terminal)
spelled_textual (name n) h p = tame_textual n (all_so goes_on is_tame goes_tame n h.0.plain)
spelled_textual (integer n) h p = tame_textual (decimal n) (all_so is_ascii_digit is_tame digit_tame (decimal n) (spells (integer n) h).digits)
spelled_textual (string t) h p = quoted_textual (encode_utf8_all t) (t, (h.0, refl)) h.1.no_zero
spelled_textual (parameter i) h p =
    let z = spells (parameter i) h in
    subst IsTextual (sym z.spelled) (behind_tame 36 z.digits refl (tame_textual z.digits (all_so is_ascii_digit is_tame digit_tame z.digits z.plain)))
spelled_textual (quote z) h p = absurd p

-- ---- the text

line_feed : IsTextual (10 ∷ [])
line_feed = tame_textual (10 ∷ []) refl

spaced_by : (b : Bool) (z : List ℕ) → IsTextual z → IsTextual (if b then 32 ∷ z else z)
spaced_by true z h = behind_tame 32 z refl h
spaced_by false z h = h

behind_textual : (ts : List Terminal) (a : Spelled) → AllWritable ts → ArePlain ts → IsTextual (written (laid_behind calls a (map spelled ts)))
behind_textual [] a h p = line_feed
behind_textual (t ∷ ts) a h p =
    let z = (spelled t).text in
    joined _ _ (spaced_by _ z (spelled_textual t h.0 p.0)) (behind_textual ts (spelled t) h.1 p.1)

laid_textual : (ts : List Terminal) → AllWritable ts → ArePlain ts → IsTextual (written (laid calls (map spelled ts)))
laid_textual [] h p = line_feed
laid_textual (t ∷ ts) h p = joined _ _ (spelled_textual t h.0 p.0) (behind_textual ts (spelled t) h.1 p.1)

no_zero_at : (z : List ℕ) → HasNoZero z → (k : ℕ) → k < length z → get_or z k 0 ≡ 0 → ⊥
no_zero_at [] h k lt e = absurd (omega (arith, lt))
no_zero_at (b ∷ z) h zero lt e = let first = and_left (not (eqb b 0)) (list_all (λ b. not (eqb b 0)) z) h in grind (arith, nat_tests, first, e)
no_zero_at (b ∷ z) h (suc k) lt e = no_zero_at z (and_right (not (eqb b 0)) (list_all (λ b. not (eqb b 0)) z) h) k (omega (arith, lt)) e

pub terminals_text_is : (ts : List Terminal) → AllWritable ts → ArePlain ts → IsText (terminals_text ts)
terminals_text_is ts h p =
    let is = laid_textual ts h p in
    record { utf8 = is.utf8; no_zero = λ found. no_zero_at (terminals_text ts) is.no_zero found.0 found.1 found.2 }
