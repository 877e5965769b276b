-- The terminals of a text's tokens are writable.
use Rattle.std.proofs.Common.{◌≡◌, ◌<◌, ◌+◌, ℕ, suc, Bool, true, false, ◌||◌, ◌==◌, if◌then◌else◌, List, [], ◌∷◌, ◌++◌, length, drop, get_or, map, Option, Some, None, inl, inr, refl, sym, ap, ◌∙◌, subst, arith, append_assoc, bytes_eq, chars}
use Rattle.std.specs.Prelude.{IsUtf8}
use Rattle.std.specs.List.{list_all, list_any}
use Rattle.std.specs.Char.{to_ascii_lowercase}
use Rattle.std.specs.Str.{str_eq_ignore_ascii_case}
use Rattle.std.proofs.lemmas.Bool.{cases_Bool}
use Rattle.std.proofs.lemmas.Bool.Decides.{nat_tests}
use Rattle.std.proofs.lemmas.List.{length-append, length-map}
use Rattle.std.proofs.lemmas.Str.{IsUtf8-append, IsUtf8-drop, IsUtf8-take, IsCharBoundary-after_ascii, IsCharBoundary-before_ascii, encode_ascii, encodes-chars, scalars-chars}
use Rattle.std.proofs.Math.Seq.{take-append_seam}
use Rattle.away_grammar.specs.declared.grammar.Mark.{Mark}
use Rattle.away_grammar.specs.declared.tokens.TokenKind.{TokenKind}
use Rattle.away_grammar.specs.declared.tokens.TokenKind.TheVariants.{Word, Integer, Str, Parameter, Dollar, Symbol}
use Rattle.away_values.specs.Words.{IsWord}
use Rattle.away_grammar.specs.Spellings.{byte, is_start, goes_on, IsNameText, IsString, Spells, doubled, number, symbols}
use Rattle.away_grammar.specs.Reserved.{folded, is_reserved, reserved}
use Rattle.away_grammar.specs.Terminals.{name, string, quote, first_mark, word_mark, symbol_mark, mark_or, terminal_by_kind, token_terminals, undoubled, between_quotes}
use Rattle.away_grammar.specs.Marks.{Entry, reserved_words, spelled_symbols}
use Rattle.away_grammar.specs.Tokens.{Lexeme, Lexes, ends, skips, token, stops}
use Rattle.away_lex.proofs.Runs.{and_left, and_right}
use Rattle.sql_printer.specs.Writable.{Writable, AllWritable}
use Rattle.away_lex.proofs.Alone.{undoubled_quoted}

-- ---- strings

at_seam : (a r : List ℕ) → get_or (a ++ 39 ∷ r) (length a) 0 ≡ 39
at_seam [] r = refl
at_seam (b ∷ a) r = at_seam a r

drop_seam : (a r : List ℕ) → drop (length a + 1) (a ++ 39 ∷ r) ≡ r
drop_seam [] r = refl
drop_seam (b ∷ a) r = let n : length (b ∷ a) + 1 ≡ suc (length a + 1) = omega arith in rw n (drop_seam a r)

before_quote : (a r : List ℕ) → IsUtf8 (a ++ 39 ∷ r) → IsUtf8 a
before_quote a r u =
    let within : length a < length (a ++ 39 ∷ r) = omega (arith, length-append a (39 ∷ r)) in
    let ascii : get_or (a ++ 39 ∷ r) (length a) 0 < 128 = omega (arith, at_seam a r) in
    subst IsUtf8 (take-append_seam a (39 ∷ r)) (IsUtf8-take (a ++ 39 ∷ r) (length a) u (IsCharBoundary-before_ascii (a ++ 39 ∷ r) (length a) within ascii))

behind_quote : (a r : List ℕ) → IsUtf8 (a ++ 39 ∷ r) → IsUtf8 r
behind_quote a r u =
    let within : length a < length (a ++ 39 ∷ r) = omega (arith, length-append a (39 ∷ r)) in
    let ascii : get_or (a ++ 39 ∷ r) (length a) 0 < 128 = omega (arith, at_seam a r) in
    subst IsUtf8 (drop_seam a r) (IsUtf8-drop (a ++ 39 ∷ r) (length a + 1) u (IsCharBoundary-after_ascii (a ++ 39 ∷ r) (length a) u within ascii))

quote_utf8 : IsUtf8 (39 ∷ [])
quote_utf8 = (39 ∷ [], (refl, ap (λ l. l ++ []) (encode_ascii 39 (omega arith))))

quote_is : (b : ℕ) → (b == 39) ≡ true → b ≡ 39
quote_is b h = grind (arith, nat_tests)

-- a text whose quotes were doubled is text without the second ones
undoubled_utf8 : (a w : List ℕ) → IsUtf8 (a ++ doubled w) → IsUtf8 (a ++ w)
undoubled_utf8 a [] u = u
undoubled_utf8 a (b ∷ t) u = elim (cases_Bool (b == 39)) [
  | inl here ↦ (
      let is = quote_is b here in
      let split : IsUtf8 (a ++ 39 ∷ 39 ∷ doubled t) = subst (λ c. IsUtf8 (a ++ (if c then 39 ∷ 39 ∷ doubled t else b ∷ doubled t))) here u in
      let rest : IsUtf8 ((39 ∷ []) ++ t) = undoubled_utf8 (39 ∷ []) t (behind_quote a (39 ∷ doubled t) split) in
      subst (λ c. IsUtf8 (a ++ c ∷ t)) (sym is) (IsUtf8-append a (39 ∷ t) (before_quote a (39 ∷ doubled t) split) rest))
  | inr other ↦ (
      let split : IsUtf8 (a ++ b ∷ doubled t) = subst (λ c. IsUtf8 (a ++ (if c then 39 ∷ 39 ∷ doubled t else b ∷ doubled t))) other u in
      subst IsUtf8 (append_assoc a (b ∷ []) t) (undoubled_utf8 (a ++ b ∷ []) t (subst IsUtf8 (sym (append_assoc a (b ∷ []) (doubled t))) split)))
]

string_writable : (before z rest : List ℕ) → IsString z → IsUtf8 (before ++ (z ++ rest)) → Writable (string (chars (undoubled (between_quotes z))))
string_writable before z rest s u =
    let w = s.text in
    let split : IsUtf8 (before ++ 39 ∷ (doubled w ++ 39 ∷ rest)) = subst (λ y. IsUtf8 (before ++ y)) (ap (λ y. y ++ rest) s.spelled ∙ ap (λ y. 39 ∷ y) (append_assoc (doubled w) (39 ∷ []) rest)) u in
    let text : IsUtf8 w = undoubled_utf8 [] w (before_quote (doubled w) rest (behind_quote before (doubled w ++ 39 ∷ rest) split)) in
    let is : undoubled (between_quotes z) ≡ w = ap (λ y. undoubled (between_quotes y)) s.spelled ∙ undoubled_quoted w in
    subst (λ y. Writable (string (chars y))) (sym is) (scalars-chars w text, subst IsWord (sym (encodes-chars w text)) s.value)

-- ---- names

lower_twice : (b : ℕ) → to_ascii_lowercase (to_ascii_lowercase b) ≡ to_ascii_lowercase b
lower_twice b = grind (arith, nat_tests)

folded_twice : (z : List ℕ) → folded (folded z) ≡ folded z
folded_twice [] = refl
folded_twice (b ∷ z) = λ i. lower_twice b i ∷ folded_twice z i

starts_low : (b : ℕ) → is_start b ≡ true → is_start (to_ascii_lowercase b) ≡ true
starts_low b h = grind (arith, nat_tests)

goes_low : (b : ℕ) → goes_on b ≡ true → goes_on (to_ascii_lowercase b) ≡ true
goes_low b h = grind (arith, nat_tests)

all_low : (z : List ℕ) → list_all goes_on z ≡ true → list_all goes_on (folded z) ≡ true
all_low [] h = refl
all_low (b ∷ z) h = rw (goes_low b (and_left (goes_on b) (list_all goes_on z) h)) (all_low z (and_right (goes_on b) (list_all goes_on z) h))

low_first : (z : List ℕ) → is_start (byte z 0) ≡ true → is_start (byte (folded z) 0) ≡ true
low_first [] h = h
low_first (b ∷ z) h = starts_low b h

folded_text : (z : List ℕ) → IsNameText z → IsNameText (folded z)
folded_text z w = record { starts = low_first z w.starts; plain = all_low z w.plain; short = omega (arith, length-map z to_ascii_lowercase, w.short) }

same_folded : (z : List ℕ) → is_reserved (folded z) ≡ is_reserved z
unfolding is_reserved
same_folded z = ap (λ y. list_any (λ w. bytes_eq y (folded w)) reserved) (folded_twice z)

unmarked : (same : List ℕ → Bool) (es : List Entry) → first_mark same es ≡ None → list_any same (map (λ (e : Entry). e.0) es) ≡ false
unmarked same [] h = refl
unmarked same (e ∷ es) h = elim (cases_Bool (same e.0)) [
  | inl here ↦ absurd (let no : Some e.1 ≡ None = sym (ap (λ b. if b then Some e.1 else first_mark same es) here) ∙ h in cc no)
  | inr other ↦ rw other (unmarked same es (sym (ap (λ b. if b then Some e.1 else first_mark same es) other) ∙ h))
]

unreserved : (z : List ℕ) → word_mark z ≡ None → is_reserved z ≡ false
unfolding is_reserved word_mark
unreserved z h = unmarked (str_eq_ignore_ascii_case z) reserved_words h

word_writable : (z : List ℕ) (o : Option Mark) → IsNameText z → word_mark z ≡ o → Writable (mark_or o (name (folded z)))
word_writable z (Some terminal) s h = tt
word_writable z None s h = (folded_text z s, folded_twice z, same_folded z ∙ unreserved z h)

-- ---- symbols

marked : (same : List ℕ → Bool) (es : List Entry) → list_any same (map (λ (e : Entry). e.0) es) ≡ true → (terminal : Mark) × (first_mark same es ≡ Some terminal)
marked same [] h = absurd (cc h)
marked same (e ∷ es) h = elim (cases_Bool (same e.0)) [
  | inl here ↦ (e.1, ap (λ b. if b then Some e.1 else first_mark same es) here)
  | inr other ↦ (
      let rest = marked same es (sym (ap (λ b. b || list_any same (map (λ (e : Entry). e.0) es)) other) ∙ h) in
      (rest.0, ap (λ b. if b then Some e.1 else first_mark same es) other ∙ rest.1))
]

symbol_marked : (z : List ℕ) → list_any (bytes_eq z) symbols ≡ true → (terminal : Mark) × (symbol_mark z ≡ Some terminal)
unfolding symbol_mark
symbol_marked z h = marked (bytes_eq z) spelled_symbols h

-- ---- all tokens

writable_of : (kind : TokenKind) (before z rest : List ℕ) → Spells kind z → IsUtf8 (before ++ (z ++ rest)) → Writable (terminal_by_kind kind z)
writable_of Word before z rest s u = word_writable z (word_mark z) s refl
writable_of Integer before z rest s u = omega (arith, s.fits)
writable_of Str before z rest s u = string_writable before z rest s u
writable_of Parameter before z rest s u =
    let is : number (drop 1 z) ≡ number s.digits = ap (λ y. number (drop 1 y)) s.spelled in
    (omega (arith, is, s.from_one), omega (arith, is, s.to_limit))
writable_of Dollar before z rest s u = s
writable_of Symbol before z rest s u = let found = symbol_marked z s in subst (λ o. Writable (mark_or o (quote z))) (sym found.1) tt

writable_behind : {at : ℕ} {z : List ℕ} {ts : List Lexeme} {bad : Option ℕ} (before : List ℕ) → IsUtf8 (before ++ z) → Lexes at z ts bad → AllWritable (token_terminals ts)
writable_behind before u ends = tt
writable_behind before u (skips {piece = piece} {rest = rest} e s more) =
    writable_behind (before ++ piece) (subst IsUtf8 (ap (λ y. before ++ y) e ∙ sym (append_assoc before piece rest)) u) more
writable_behind before u (token {piece = piece} {rest = rest} {kind = kind} e s more) =
    let split = subst (λ y. IsUtf8 (before ++ y)) e u in
    (writable_of kind before piece rest s.spelled split, writable_behind (before ++ piece) (subst IsUtf8 (sym (append_assoc before piece rest)) split) more)
writable_behind before u (stops lt h) = tt

-- The tokens of UTF-8 say writable terminals.
pub text_writable : {at : ℕ} {z : List ℕ} {ts : List Lexeme} {bad : Option ℕ} → IsUtf8 z → Lexes at z ts bad → AllWritable (token_terminals ts)
text_writable u d = writable_behind [] u d
