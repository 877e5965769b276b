-- Each writable terminal is spelled as a token that says it.
use Rattle.std.proofs.Common.{◌≡◌, ℕ, ◌+◌, ◌*◌, ◌-◌, ◌<◌, ◌≤◌, ◌^◌, Bool, true, false, ◌&&◌, ◌||◌, List, [], ◌∷◌, map, chars, Some, None, refl, ap, ◌∙◌, arith, if◌then◌else◌}
use Rattle.std.proofs.lemmas.Bool.Decides.{nat_tests}
use Rattle.std.proofs.lemmas.Fmt.{decimal_is_IsNumeral}
use Rattle.std.proofs.lemmas.Str.{chars-encodes}
use Rattle.std.proofs.lemmas.Str.Parse.{digit_from_value}
use Rattle.std.specs.Prelude.{encode_utf8_all, decimal}
use Rattle.std.specs.Char.{is_ascii_digit, digit_value}
use Rattle.std.specs.Int.{IsInRange}
use Rattle.std.specs.List.{list_all, list_any}
use Rattle.std.specs.Str.{all_scalars, str_eq_ignore_ascii_case}
use Rattle.std.specs.Str.Parse.{AllDigits, digits_value_after}
use Rattle.away_grammar.specs.declared.grammar.Mark.{Mark}
use Rattle.away_grammar.specs.declared.grammar.Mark.TheVariants as m
use Rattle.away_grammar.specs.Spellings.{Spells, IsInteger, number, number_from, quoted}
use Rattle.away_grammar.specs.Reserved.{is_reserved, folded}
use Rattle.away_grammar.specs.Terminals.{Terminal, mark, name, integer, string, parameter, quote, first_mark, word_mark, symbol_mark, undoubled, between_quotes, mark_or, terminal_by_kind}
use Rattle.away_grammar.specs.Marks.{Entry, reserved_words}
use Rattle.away_grammar.specs.Printing.{mark_spelled, spelled}
use Rattle.away_lex.proofs.Alone.{undoubled_quoted}
use Rattle.sql_printer.specs.Writable.{Writable}

-- ---- marks

mark_spells : (terminal : Mark) → Spells (mark_spelled terminal).kind (mark_spelled terminal).text
mark_spells m.Assign = refl
mark_spells m.Equal = refl
mark_spells m.Differ = refl
mark_spells m.Less = refl
mark_spells m.LessEqual = refl
mark_spells m.Greater = refl
mark_spells m.GreaterEqual = refl
mark_spells m.Plus = refl
mark_spells m.Minus = refl
mark_spells m.Star = refl
mark_spells m.Slash = refl
mark_spells m.Percent = refl
mark_spells m.Bars = refl
mark_spells m.Colons = refl
mark_spells m.Open = refl
mark_spells m.Close = refl
mark_spells m.Comma = refl
mark_spells m.Semicolon = refl
mark_spells m.Dot = refl
mark_spells m.Dots = refl
mark_spells m.LabelOpen = refl
mark_spells m.LabelClose = refl
mark_spells _ = record { starts = refl; plain = refl; short = omega arith }

mark_spelled_is : (terminal : Mark) → terminal_by_kind (mark_spelled terminal).kind (mark_spelled terminal).text ≡ mark terminal
unfolding word_mark symbol_mark
mark_spelled_is m.Assign = refl
mark_spelled_is _ = refl

-- ---- names

or_none : (a b : Bool) → (a || b) ≡ false → (a ≡ false) × (b ≡ false)
or_none true b h = absurd (cc h)
or_none false b h = (refl, h)

no_mark : (same : List ℕ → Bool) (es : List Entry) → list_any same (map (λ (e : Entry). e.0) es) ≡ false → first_mark same es ≡ None
no_mark same [] h = refl
no_mark same (e ∷ es) h =
    let p = or_none (same e.0) _ h in
    ap (λ b. if b then Some e.1 else first_mark same es) p.0 ∙ no_mark same es p.1

no_word : (n : List ℕ) → is_reserved n ≡ false → word_mark n ≡ None
unfolding is_reserved word_mark
no_word n h = no_mark (str_eq_ignore_ascii_case n) reserved_words h

-- ---- numbers

digit_is : (c : ℕ) → digit_value c < 10 → (is_ascii_digit c ≡ true) × (c - 48 ≡ digit_value c)
digit_is c h = let r : IsInRange 48 57 c = digit_from_value c h in (grind (arith, nat_tests, r), grind (arith, nat_tests, r))

digits_all : (ds : List ℕ) → AllDigits 10 ds → list_all is_ascii_digit ds ≡ true
digits_all [] h = refl
digits_all (c ∷ cs) h = ap (λ b. b && list_all is_ascii_digit cs) (digit_is c h.0).0 ∙ digits_all cs h.1

digits_number : (v : ℕ) (ds : List ℕ) → AllDigits 10 ds → number_from v ds ≡ digits_value_after 10 v ds
digits_number v [] h = refl
digits_number v (c ∷ cs) h = ap (λ d. number_from (v * 10 + d) cs) (digit_is c h.0).1 ∙ digits_number (v * 10 + digit_value c) cs h.1

pub number_decimal : (n : ℕ) → n < 2 ^ 64 → number (decimal n) ≡ n
unfolding number
number_decimal n h = let d = decimal_is_IsNumeral n h in digits_number 0 (decimal n) d.0.1 ∙ d.1

pub decimal_digits : (n : ℕ) → n < 2 ^ 64 → list_all is_ascii_digit (decimal n) ≡ true
decimal_digits n h = digits_all (decimal n) (decimal_is_IsNumeral n h).0.1

pub integer_spells : (n : ℕ) → n ≤ 2 ^ 63 → IsInteger (decimal n)
integer_spells n h =
    let small : n < 2 ^ 64 = omega (arith, h) in
    record { some = (decimal_is_IsNumeral n small).0.0; digits = decimal_digits n small; fits = omega (arith, h, number_decimal n small) }

-- ---- strings

string_spelled_is : (t : List ℕ) → all_scalars t ≡ true → chars (undoubled (between_quotes (quoted (encode_utf8_all t)))) ≡ t
string_spelled_is t h = ap chars (undoubled_quoted (encode_utf8_all t)) ∙ chars-encodes t h

-- ---- all terminals

pub spells : (s : Terminal) → Writable s → Spells (spelled s).kind (spelled s).text
spells (mark terminal) h = mark_spells terminal
spells (name n) h = h.0
spells (integer n) h = integer_spells n h
spells (string t) h = record { text = encode_utf8_all t; value = h.1; spelled = refl }
spells (parameter i) h =
    let small : i < 2 ^ 64 = omega (arith, h.1) in
    let value = number_decimal i small in
    record { digits = decimal i; spelled = refl; plain = decimal_digits i small; from_one = omega (arith, value, h.0); to_limit = omega (arith, value, h.1) }
spells (quote z) h = h

pub spelled_back : (s : Terminal) → Writable s → terminal_by_kind (spelled s).kind (spelled s).text ≡ s
spelled_back (mark terminal) h = mark_spelled_is terminal
spelled_back (name n) h = ap (λ o. mark_or o (name (folded n))) (no_word n h.2) ∙ ap name h.1
spelled_back (integer n) h = ap integer (number_decimal n (omega (arith, h)))
spelled_back (string t) h = ap string (string_spelled_is t h.0)
spelled_back (parameter i) h = ap parameter (number_decimal i (omega (arith, h.1)))
spelled_back (quote z) h = refl
